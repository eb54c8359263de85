-- The limits of what is read, this project's own.
use Rattle.std.specs.Prelude.{ℕ}

-- the longest line or requirement, in bytes
abbrev pub line_limit : ℕ
line_limit = 65536

-- the largest input, in bytes
abbrev pub input_limit : ℕ
input_limit = 16777216
