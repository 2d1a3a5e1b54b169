-- What the tests of a record tell.
use Rattle.std.proofs.Common.{◌≡◌, ◌≢◌, ℕ, ◌&&◌, Bool, not, nat_eq, List, subst}
use lib.Pointwise.{pointwise, pointwise_decides}
use Rattle.std.specs.Bool.{Decides}
use Rattle.std.proofs.lemmas.Bool.Decides.{Decides-eqb, Decides-not, Decides-and, same_from_decides}
use Rattle.f11_bytes.specs.Words.{word}
use Rattle.f11_store.specs.Directory.{record_name, is_empty, has_name}
use Rattle.f11_dir.specs.declared.record.Record.{Record}
use Rattle.f11_dir.specs.Records.{record_of_bytes}

-- a test of what was read tells whether the record is empty
pub is_empty_is : (r : List ℕ) (read : Record) (b : Bool) → read ≡ record_of_bytes r → Decides b (read.id.number ≡ 0) → is_empty r ≡ b
is_empty_is r read b is h =
    same_from_decides (is_empty r) b (Decides-eqb (word r 0) 0) (subst (λ (x : Record). Decides b (x.id.number ≡ 0)) is h)

-- a test of what was read tells whether the record has a name
pub has_name_is :
    (name r : List ℕ) (read : Record) (b : Bool) → read ≡ record_of_bytes r → Decides b ((read.id.number ≢ 0) × (read.words ≡ name)) →
    has_name name r ≡ b
unfolding has_name
has_name_is name r read b is h =
    same_from_decides (not (is_empty r) && pointwise nat_eq (record_name r) name) b
    (Decides-and (not (is_empty r)) (pointwise nat_eq (record_name r) name) (Decides-not (is_empty r) (Decides-eqb (word r 0) 0))
    (pointwise_decides Decides-eqb (record_name r) name))
    (subst (λ (x : Record). Decides b ((x.id.number ≢ 0) × (x.words ≡ name))) is h)
