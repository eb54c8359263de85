-- What a place in the order feeds a hasher: versions that are the same in order feed the same.
use Rattle.std.specs.Hash.{Alike, HashWrites}
use Rattle.std.specs.Prelude.{◌++◌, [], ◌∷◌}
use Rattle.std.specs.Ordering.{eq_by_cmp}
use Rattle.pep_version.specs.ByteOrder.{ended}
use Rattle.pep_version.specs.KeyBytes.{dev_bytes, key_bytes, label_bytes, number_bytes, post_bytes}
use Rattle.pep_version.specs.KeyBytes.{release_number_bytes, stage_bytes_of}
use Rattle.pep_version.specs.Laws.{is_same-true, same-parts}
use Rattle.pep_version.specs.Order.{version_cmp}
use Rattle.pep_version.specs.Version.{Version}

-- what a key feeds: its bytes. Whoever needs it cites this name and `key_feed-alike` alone, so that
-- keys may come to feed otherwise
unfoldable pub key_feed : Version → HashWrites
key_feed v = key_bytes v ∷ []

-- versions that are the same in order feed the same
pub key_feed-alike : Alike (eq_by_cmp version_cmp) key_feed
unfolding key_feed
key_feed-alike = record {
  fed = λ v w h. let e = same-parts v w ((is_same-true v w).0 h) in
      λ i. ((number_bytes (e.epoch i) ++ ended release_number_bytes (e.release i))
      ++ (stage_bytes_of (e.pre i) (e.post i) (e.dev i)
      ++ (post_bytes (e.post i) ++ (dev_bytes (e.dev i) ++ label_bytes (e.label i))))) ∷ [];
}
