-- Why edits are refused: at one input, what the turned body gives is not what the clause says.
use Rattle.std.proofs.Common.{◌≡◌, ◌↔◌, ℕ, [], ◌∷◌, ◌++◌, Option, Some, None, IsSome, codes}
use Rattle.std.proofs.Common.{map, true}
use Rattle.std.proofs.Common.{refl, ap, inl, arith, lit<}
use Rattle.std.specs.Fmt.{digits}
use Rattle.std.specs.Prelude.{Ok}
use Rattle.std.specs.declared.cmp.Ordering.TheVariants.{Greater}
use Rattle.pep_version.specs.declared.parts.Phase.{Phase}
use Rattle.pep_version.specs.declared.parts.Phase.TheVariants.{Alpha}
use Rattle.pep_version.specs.Feed.{key_feed}
use Rattle.pep_version.specs.KeyBytes.{key_bytes, stage_bytes_of}
use Rattle.pep_version.specs.KeyReading.{IsKey, behind_place}
use Rattle.pep_version.specs.Order.{place_of, release_version, version_cmp, with_suffixes}
use Rattle.pep_version.specs.Spelling.{Reads, SpellsAny}
use Rattle.pep_version.specs.Text.{KeepsFront, dev_text, normal_text, post_text, pre_text, public_version, release_text}
use Rattle.pep_version.specs.Final.{is_final}
use Rattle.pep_version.specs.Version.{IsVersion, Version, number}
use Rattle.pep_version.specs.View.{segment_of}

abbrev plain : ℕ → Version
plain n = public_version (n ∷ []) None None None

abbrev alpha : Option (Phase × ℕ)
alpha = Some (Alpha, 0)

-- 0
pub Key_bytes-without_the_last : ¬ (0 ∷ 0 ∷ 0 ∷ 0 ∷ 0 ∷ 0 ∷ 0 ∷ 0 ∷ 0 ∷ 0x50 ∷ 0 ∷ 1 ∷ []
    ≡ key_bytes (plain 0))
Key_bytes-without_the_last e = cc e

-- 1 and 2
pub Key_cmp-backwards : ¬ (Greater ≡ version_cmp (plain 1) (plain 2))
Key_cmp-backwards e = cc e

-- 0
pub Key_copied-another_key : ¬ ([] ≡ key_bytes (plain 0))
Key_copied-another_key e = cc e

-- 0
pub Key_hash-no_bytes : ¬ ([] ∷ [] ≡ key_feed (plain 0))
unfolding key_feed
Key_hash-no_bytes e = cc e

-- 0
pub Key_into_bytes-without_the_release : ¬ (0 ∷ 0 ∷ 0 ∷ 0 ∷ 0 ∷ 0 ∷ 0 ∷ 0 ∷ [] ≡ key_bytes (plain 0))
Key_into_bytes-without_the_release e = cc e

-- 1.dev0
pub Key_of-without_dev : ¬ (plain 1 ≡ place_of (public_version (1 ∷ []) None None (Some 0)))
Key_of-without_dev e = cc (ap (λ (v : Version). v.dev) e)

zero : IsVersion (plain 0)
zero = record {
  release = lit< tt;
  label = tt;
  numbers = record {
    epoch = lit< tt;
    release = (lit< tt, tt);
    pre = tt;
    post = tt;
    dev = tt;
    label = tt;
  };
}

-- the bytes of the key of 0
pub Key_read-none_is_one : ¬ (IsSome {T = Version} None ↔ IsKey (key_bytes (plain 0)))
Key_read-none_is_one h = cc (h.1 (plain 0, zero, refl))

-- epoch 0, release 1
pub Key_of_release-a_pre_release : ¬ (public_version (1 ∷ []) alpha None None
    ≡ place_of (release_version 0 (1 ∷ []) None))
Key_of_release-a_pre_release e = cc (ap (λ (v : Version). v.pre) e)

-- 10, behind no text
pub Key_push_text-another_text : ¬ (codes "0" ≡ codes "" ++ normal_text (plain 10))
unfolding digits
Key_push_text-another_text e = cc e

-- a text `a`, and no memory
pub Key_push_text-emptied_where_it_fails : ¬ KeepsFront (codes "a") []
Key_push_text-emptied_where_it_fails (part, e) = cc e

-- 2
pub Key_version-another_version : ¬ (public_version (1 ∷ 0 ∷ []) None None None ≡ plain 2)
Key_version-another_version e = cc (ap (λ (v : Version). v.release) e)

-- 1a0 without suffixes
pub Key_with_suffixes-own_pre_release : ¬ (public_version (1 ∷ []) alpha None None
    ≡ place_of (with_suffixes (public_version (1 ∷ []) alpha None None) None None None))
Key_with_suffixes-own_pre_release e = cc (ap (λ (v : Version). v.pre) e)

-- 1.post0
pub Version_copied-without_post : ¬ (plain 1 ≡ public_version (1 ∷ []) None (Some 0) None)
Version_copied-without_post e = cc (ap (λ (v : Version). v.post) e)

-- 1a0
pub Version_is_final-pre_releases_too : ¬ (true ≡ is_final (public_version (1 ∷ []) alpha None None))
Version_is_final-pre_releases_too e = cc e

-- 1+1
pub Version_label-lost : ¬ (map segment_of [] ≡ (record (plain 1) { label = number 1 ∷ [] }).label)
Version_label-lost e = cc e

-- an empty release
pub Version_of_parts-empty_release : ¬ (IsSome (Some (public_version [] None None None))
    ↔ IsVersion (public_version [] None None None))
Version_of_parts-empty_release e = absurd (omega (arith, (e.0 refl).release))

-- a text `a`, and no memory
pub Version_push_text-emptied_where_it_fails : ¬ KeepsFront (codes "a") []
Version_push_text-emptied_where_it_fails (part, e) = cc e

-- 1.post0, behind no text
pub Version_push_text-without_the_word_post : ¬ (codes "10" ≡ codes ""
    ++ normal_text (public_version (1 ∷ []) None (Some 0) None))
unfolding digits
Version_push_text-without_the_word_post e = cc e

-- 0, behind no text
pub Version_put_front-nothing_for_a_zero : ¬ (codes "" ≡ codes "" ++ normal_text (plain 0))
unfolding digits
Version_put_front-nothing_for_a_zero e = cc e

-- 1
pub Version_release-lost : ¬ ([] ≡ (plain 1).release)
Version_release-lost e = cc e

-- 1.post0
pub Version_text-of_the_release : ¬ (codes "1" ≡ normal_text (public_version (1 ∷ []) None (Some 0) None))
unfolding digits
Version_text-of_the_release e = cc e

-- the key of 0
pub behind_release-the_epoch_left : ¬ (0 ∷ 0x50 ∷ 0 ∷ 1 ∷ 0 ∷ [] ≡ behind_place (key_bytes (plain 0)))
behind_release-the_epoch_left e = cc e

-- the release 1, behind no text
pub put_release-one_number_twice : ¬ (codes "1.1" ≡ codes "" ++ release_text (1 ∷ []))
unfolding digits
put_release-one_number_twice e = cc e

-- the suffixes of 1.post1, behind no text
pub put_suffixes-post_as_dev : ¬ (codes ".post1.dev1" ≡ codes ""
    ++ (pre_text None ++ post_text (Some 1) ++ dev_text None))
unfolding digits
put_suffixes-post_as_dev e = cc e

-- a developmental release, behind no bytes
pub push_stage-dev_above_pre_releases : ¬ (0x50 ∷ [] ≡ [] ++ stage_bytes_of None None (Some 0))
push_stage-dev_above_pre_releases e = cc e

dash_number : SpellsAny (codes "1.0a-1") (public_version (1 ∷ 0 ∷ []) (Some (Alpha, 1)) None None)
dash_number = record {
  preceding_v = [];
  epoch = [];
  release = codes "1.0";
  pre = codes "a-1";
  post = [];
  dev = [];
  label = [];
  pieces = refl;
  preceding_v_is = inl refl;
  epoch_is = inl (refl, refl);
  release_is = (refl, refl);
  pre_is = record {
    before = [];
    letters = codes "a";
    after = codes "-";
    digits = codes "1";
    pieces = refl;
    before_is = tt;
    letters_is = inl refl;
    after_is = refl;
    digits_is = (refl, refl);
  };
  post_is = refl;
  dev_is = refl;
  label_is = refl;
}

-- `1.0a-1`
pub split_pre-dash_after_a_bare_word : ¬ Reads (codes "1.0a-1") (Ok (public_version (1 ∷ 0 ∷ []) alpha
    (Some 1) None))
split_pre-dash_after_a_bare_word h = cc (ap (λ (v : Version). v.post) (h.1 _ dash_number))
