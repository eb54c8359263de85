use Rattle.pep_version.proofs.KeysRead.{IsKey-reads}
use Rattle.pep_version.proofs.KeyParts.{behind_place-is, version-front, version_at-key}
use Rattle.pep_version.proofs.laws.key_is_read.Goals as goal

pub returns-clause-place : goal.returns-clause-place
returns-clause-place c = version_at-key

pub returns-clause-front : goal.returns-clause-front
returns-clause-front c v rest h = version-front v h rest

pub returns-clause-behind_release : goal.returns-clause-behind_release
returns-clause-behind_release c v rest h = behind_place-is v h rest

pub returns-clause-is_key : goal.returns-clause-is_key
returns-clause-is_key c = IsKey-reads
