use Rattle.pep_tool.proofs.RunFiles.{file_reads, file_unread, opened}
use Rattle.pep_tool.proofs.program.reading.read_file.Goals as goal

pub returns-clause-bytes : goal.returns-clause-bytes
returns-clause-bytes g c =
    let file = c.in-Ok.ensures in
    let read = c.read_all.ensures in
    file_reads (λ bytes. bytes.items) c.read_all.result _ _ _ _ _ _ _
    (opened _ _ _ _ _ _ file.opened file.identity read.same read.calls file.bytes
    read.most) file.bytes read.failed read.bytes read.whole read.bound

pub returns-clause-refused : goal.returns-clause-refused
returns-clause-refused g c =
    let file = c.in-Ok.ensures in
    let read = c.read_all.ensures in
    file_unread c.read_all.result _ _ _ _ _ _
    (opened _ _ _ _ _ _ file.opened file.identity read.same read.calls file.bytes
    read.most) read.failed read.faults
