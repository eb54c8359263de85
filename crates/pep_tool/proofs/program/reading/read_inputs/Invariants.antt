use Rattle.std.proofs.Common.{◌≡◌, map, option_copied, string_bytes, take}
use Rattle.pep_tool.specs.RunFiles.{ReadsInputs}
use Rattle.pep_tool.proofs.program.reading.read_inputs.Given as goal

-- the files so far are read
abbrev pub invariant-loop-path : goal.invariant-loop-path
invariant-loop-path g l =
    ReadsInputs (g.D.Folder.file_at l.folder) g.D.File.Source.left
    g.D.File.Source.device (option_copied l.group) (map string_bytes (take l.path-index l.paths)) l.inputs.items
    × (l.number ≡ l.path-index)
