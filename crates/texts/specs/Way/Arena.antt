-- THE CODE'S WAY, and no part of any meaning: texts that stand in one list of bytes.
use Rattle.std.specs.Prelude.{◌≡◌, ℕ, ◌+◌, ◌≤◌, Bool, List, drop, length, take}
use Rattle.std.specs.Cmp.Lexicographic.{slice_cmp}
use Rattle.std.specs.Ordering.{eq_by_cmp, nat_cmp, ordering_then}
use Rattle.std.specs.Str.{IsCharBoundary}
use Rattle.std.specs.declared.cmp.Ordering.{Ordering}
use Rattle.texts.specs.Way.Heads.{head_of}
use Rattle.texts.specs.declared.arena.Piece.{Piece}

-- the order of texts: by their bytes
abbrev pub text_cmp : List ℕ → List ℕ → Ordering
text_cmp = slice_cmp nat_cmp

-- two texts that are one
abbrev pub same_text : List ℕ → List ℕ → Bool
same_text = eq_by_cmp text_cmp

-- what stands there
abbrev pub text_at : List ℕ → Piece → List ℕ
text_at bytes p = take p.len (drop p.start bytes)

-- a text stands there, with its first bytes as a number
pub record IsPiece (bytes : List ℕ) (p : Piece) : Type 0 where
  pub inside : p.start + p.len ≤ length bytes
  pub begins : IsCharBoundary bytes p.start
  pub ends : IsCharBoundary bytes (p.start + p.len)
  pub head : p.head ≡ head_of (text_at bytes p)

-- first by the numbers, then by the bytes
abbrev pub piece_cmp : List ℕ → Piece → Piece → Ordering
piece_cmp bytes p q =
    ordering_then (nat_cmp p.head q.head) (text_cmp (text_at bytes p) (text_at bytes q))

abbrev pub same_piece : List ℕ → Piece → Piece → Bool
same_piece bytes = eq_by_cmp (piece_cmp bytes)
