-- Reading the lists in a key element by element.
use Rattle.std.proofs.Common.{◌≡◌, ◌<◌, ◌≤◌, ◌==◌, ℕ, zero, suc, List, [], ◌∷◌, ◌++◌, length, drop, take, get_or, ◌-◌, length-drop, inl, inr, subst, true, Bool, length-append, refl, sym, ap, ◌∙◌, arith, append_assoc, append-nil, false}
use Rattle.std.proofs.lemmas.Bool.{cases_lt, le-ltb, lt-ltb}
use Rattle.std.proofs.lemmas.List.{take_at}
use Rattle.std.proofs.lemmas.Str.{IsUtf8-from_ascii}
use Rattle.std.specs.List.{AllByRecursion, list_all}
use Rattle.std.specs.Prelude.{IsUtf8, if◌then◌else◌}
use Rattle.std.specs.Str.{IsAscii}
use Rattle.texts.proofs.Connectives.{and_first, and_second}
use Rattle.texts.proofs.ListLemmas.{to-end}
use Rattle.pep_version.proofs.SliceLemmas.{word-ascii}
use Rattle.pep_version.specs.Version.{IsSegment, is_word_byte, number, word}
use Rattle.pep_version.specs.KeyReading.{read_map, read_segment, read_word, word_count, Reader, put_first, read_ended, read_number, read_release_number}

nonzero : (n : ℕ) → (suc n == 0) ≡ false
nonzero n = grind arith

module _ {A : Type 0} (read : Reader A) where
  -- what is read of the whole is what was read so far, and what is read of the rest
  pub record SoFar (whole : List A × List ℕ) (done : List A) (rest : List ℕ) : Type 0 where
    pub most : ℕ
    pub fits : length rest ≤ most
    pub values : whole.0 ≡ done ++ (read_ended read most rest).0
    pub left : whole.1 ≡ (read_ended read most rest).1

  pub at_start : (bytes : List ℕ) → SoFar (read_ended read (length bytes) bytes) [] bytes
  at_start bytes = record { most = length bytes; fits = omega arith; values = refl; left = refl }

  ended_here : (k : ℕ) (rest : List ℕ) → length rest ≤ k → get_or rest 0 0 ≡ 0 → read_ended read k rest ≡ ([], drop 1 rest)
  ended_here zero [] h z = refl
  ended_here zero (b ∷ rest) h z = absurd (omega (arith, h))
  ended_here (suc k) [] h z = refl
  ended_here (suc k) (b ∷ rest) h z = rw z refl

  -- at a 0, and where nothing is left, the list ends
  pub at_end : (whole : List A × List ℕ) (done : List A) (rest : List ℕ) → SoFar whole done rest → get_or rest 0 0 ≡ 0
      → (whole.0 ≡ done) × (whole.1 ≡ drop 1 rest)
  at_end whole done rest s z =
      let e = ended_here s.most rest s.fits z in
      (s.values ∙ ap (λ (p : List A × List ℕ). done ++ p.0) e ∙ append-nil done, s.left ∙ ap (λ (p : List A × List ℕ). p.1) e)

  further : (k : ℕ) (rest : List ℕ) → length rest ≤ suc k → 0 < get_or rest 0 0
      → read_ended read (suc k) rest ≡ put_first (read rest).0 (read_ended read k (read rest).1)
  further k [] h z = absurd (omega (arith, z))
  further k (zero ∷ rest) h z = absurd (omega (arith, z))
  further k (suc b ∷ rest) h z = rw (nonzero b) refl

  -- else one element more is read
  pub one_more : (whole : List A × List ℕ) (done : List A) (rest : List ℕ) → SoFar whole done rest → 0 < get_or rest 0 0
      → length (read rest).1 < length rest → SoFar whole (done ++ ((read rest).0 ∷ [])) (read rest).1
  one_more whole done rest s z l = by s.most s.fits s.values s.left
    where
      by : (k : ℕ) → length rest ≤ k → whole.0 ≡ done ++ (read_ended read k rest).0 → whole.1 ≡ (read_ended read k rest).1
          → SoFar whole (done ++ ((read rest).0 ∷ [])) (read rest).1
      by zero h e f = absurd (omega (arith, h, l))
      by (suc k) h e f =
          let g = further k rest h z in
          record {
            most = k;
            fits = omega (arith, h, l);
            values =
                e ∙ ap (λ (p : List A × List ℕ). done ++ p.0) g
                ∙ sym (append_assoc done ((read rest).0 ∷ []) (read_ended read k (read rest).1).0);
            left = f ∙ ap (λ (p : List A × List ℕ). p.1) g;
          }

  -- which is one of those that are read of the whole
  pub is_next : (P : A → Type 0) (whole : List A × List ℕ) (done : List A) (rest : List ℕ) → SoFar whole done rest
      → 0 < get_or rest 0 0 → length (read rest).1 < length rest → AllByRecursion P whole.0 → P (read rest).0
  is_next P whole done rest s z l all = by s.most s.fits s.values
    where
      at : (done more : List A) → AllByRecursion P (done ++ ((read rest).0 ∷ more)) → P (read rest).0
      at [] more h = h.0
      at (x ∷ done) more h = at done more h.1

      by : (k : ℕ) → length rest ≤ k → whole.0 ≡ done ++ (read_ended read k rest).0 → P (read rest).0
      by zero h e = absurd (omega (arith, h, l))
      by (suc k) h e =
          let g = further k rest h z in
          at done (read_ended read k (read rest).1).0
          (subst (AllByRecursion P) (e ∙ ap (λ (p : List A × List ℕ). done ++ p.0) g) all)

-- what stands behind the first byte
pub behind : (rest : List ℕ) → take (length rest - 1) (drop 1 rest) ≡ drop 1 rest
behind rest = to-end rest 1

-- where nothing is left there is no first byte, and nothing behind it
pub none_left : (rest : List ℕ) → length rest < 1 → (get_or rest 0 0 ≡ 0) × (drop 1 rest ≡ rest)
none_left [] h = (refl, refl)
none_left (b ∷ rest) h = absurd (omega (arith, h))

-- a number leaves no more than there was
pub number_left : (bytes : List ℕ) → length (read_number bytes).1 ≤ length bytes
number_left bytes = elim (cases_lt (length bytes) 8) [
  | inl a ↦ rw (lt-ltb (length bytes) 8 a) (omega arith)
  | inr a ↦ rw (le-ltb (length bytes) 8 a) (omega (arith, length-drop 8 bytes))
]

pub release_number_left : (rest : List ℕ) → 1 ≤ length rest → length (read_release_number rest).1 < length rest
release_number_left rest h =
    let some = number_left (drop 1 rest) in
    omega (arith, h, some, length-drop 1 rest)

-- a segment leaves less than there was
pub segment_left : (rest : List ℕ) → 1 ≤ length rest → length (read_segment rest).1 < length rest
segment_left [] h = absurd (omega (arith, h))
segment_left (b ∷ rest) h = by (b == 1)
  where
    by : (t : Bool) → length (if t then read_map word (read_word rest) else read_map number (read_number rest)).1 < length (b ∷ rest)
    by true = omega (arith, length-drop 1 (drop (word_count rest) rest), length-drop (word_count rest) rest)
    by false = omega (arith, number_left rest)

-- a word is UTF-8
word_ascii : (letters : List ℕ) → list_all is_word_byte letters ≡ true → IsAscii letters
word_ascii [] h i = omega arith
word_ascii (b ∷ letters) h zero = word-ascii b (and_first _ _ h)
word_ascii (b ∷ letters) h (suc i) = word_ascii letters (and_second _ _ h) i

pub word_utf8 : (letters : List ℕ) → IsSegment (word letters) → IsUtf8 letters
word_utf8 letters h = IsUtf8-from_ascii letters (word_ascii letters (and_first _ _ h))

-- a list without what stands at its end
pub front_of : (front back : List ℕ) → take (length (front ++ back) - length back) (front ++ back) ≡ front
front_of front back = take_at front back (length (front ++ back) - length back) (omega (arith, length-append front back))

-- behind a byte 1 stands a word, and behind another a number
pub segment_word : (bytes : List ℕ) → 1 ≤ length bytes → get_or bytes 0 0 ≡ 1
    → read_segment bytes ≡ read_map word (read_word (drop 1 bytes))
segment_word [] h e = absurd (omega (arith, h))
segment_word (b ∷ bytes) h e = rw e refl

pub segment_number : (bytes : List ℕ) → 1 ≤ length bytes → (get_or bytes 0 0 == 1) ≡ false
    → read_segment bytes ≡ read_map number (read_number (drop 1 bytes))
segment_number [] h e = absurd (omega (arith, h))
segment_number (b ∷ bytes) h e = rw e refl
