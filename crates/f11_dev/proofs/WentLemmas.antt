-- What carries `Went` from call to call.
use Rattle.std.proofs.Common.{◌≡◌, ◌⊎◌, ℕ, zero, suc, ◌+◌, ◌≤◌, List, [], ◌∷◌, ◌++◌, length, get_or, true, false, refl, sym, subst, ap, ◌∙◌}
use Rattle.std.proofs.Common.{⊎_elim, append_assoc, arith}
use Rattle.std.specs.List.{All}
use Rattle.std.proofs.Math.ListN.{set}
use Rattle.std.proofs.lemmas.List.{length-set}
use Rattle.std.proofs.lemmas.List.Elements.{All-append}
use Rattle.f11_dev.specs.Image.{Image}
use Rattle.f11_dev.specs.Disk.{Disk, with_transfer, with_block_at}
use Rattle.f11_dev.specs.Looked.{Looked}
use Rattle.f11_dev.specs.Went.{Went, newest}
use Rattle.f11_dev.proofs.LookedLemmas.{looked_failed_read}

-- what only read
pub went_looked : (P : Image → Type 0) {old new : Disk} {most faults : ℕ} → Looked old new most faults → Went P old new most faults
went_looked P looked = record {
  since = [];
  history = looked.history;
  image = looked.image;
  each = λ k d within. absurd (omega arith);
  size = ap (λ (image : Image). length image) looked.image;
  honest = looked.honest;
  transfers = looked.transfers;
  failures = looked.failures;
  quiet = looked.quiet;
}

-- P of one image
All-one : (P : Image → Type 0) (image : Image) → P image → All P (image ∷ [])
All-one P image holds zero d within = holds
All-one P image holds (suc k) d within = absurd (omega arith)

-- a write that succeeded
pub went_write : (P : Image → Type 0) (old new : Disk) (lbn : ℕ) (block : List ℕ) → new ≡ with_transfer true (with_block_at lbn block old)
    → P (set old.image lbn block) → Went P old new 1 0
went_write P old new lbn block is holds = subst (λ d. Went P old d 1 0) (sym is) record {
  since = set old.image lbn block ∷ [];
  history = refl;
  image = refl;
  each = All-one P (set old.image lbn block) holds;
  size = length-set old.image lbn block;
  honest = refl;
  transfers = omega arith;
  failures = omega arith;
  quiet = λ some. absurd (omega arith);
}

-- a write that failed
pub went_failed_write : (P : Image → Type 0) (old new : Disk) (lbn : ℕ) (block : List ℕ)
    → (new ≡ with_transfer false old) ⊎ (new ≡ with_transfer false (with_block_at lbn block old)) → P (set old.image lbn block)
    → Went P old new 1 1
went_failed_write P old new lbn block is holds = ⊎_elim (λ kept. went_looked P (looked_failed_read old new kept)) lands is
  where
    lands : new ≡ with_transfer false (with_block_at lbn block old) → Went P old new 1 1
    lands landed_is = subst (λ d. Went P old d 1 1) (sym landed_is) record {
      since = set old.image lbn block ∷ [];
      history = refl;
      image = refl;
      each = All-one P (set old.image lbn block) holds;
      size = length-set old.image lbn block;
      honest = refl;
      transfers = omega arith;
      failures = omega arith;
      quiet = λ some. refl;
    }

newest-append : (later earlier : List Image) (image : Image) → newest (later ++ earlier) image ≡ newest later (newest earlier image)
newest-append [] earlier image = refl
newest-append (last ∷ later) earlier image = refl

-- one after another
pub went_more : (P : Image → Type 0) {a b c : Disk} {m n faults : ℕ} → Went P a b m 0 → Went P b c n faults → Went P a c (m + n) faults
went_more P {a = a} {c = c} first then = record {
  since = then.since ++ first.since;
  history = then.history ∙ ap (λ (h : List Image). then.since ++ h) first.history ∙ sym (append_assoc then.since first.since a.history);
  image = then.image ∙ ap (newest then.since) first.image ∙ sym (newest-append then.since first.since a.image);
  each = All-append P then.since first.since then.each first.each;
  size = then.size ∙ first.size;
  honest = then.honest ∙ first.honest;
  transfers = omega (arith, first.transfers, then.transfers);
  failures = omega (arith, first.failures, then.failures);
  quiet = then.quiet;
}

-- fewer would do
pub went_within : (P : Image → Type 0) {a b : Disk} {m n faults : ℕ} → Went P a b m faults → m ≤ n → Went P a b n faults
went_within P went fewer = record {
  since = went.since;
  history = went.history;
  image = went.image;
  each = went.each;
  size = went.size;
  honest = went.honest;
  transfers = omega (arith, went.transfers, fewer);
  failures = went.failures;
  quiet = went.quiet;
}

-- what else holds of each image
pub went_weaker : (P Q : Image → Type 0) {a b : Disk} {most faults : ℕ} → ((image : Image) → P image → Q image) → Went P a b most faults
    → Went Q a b most faults
went_weaker P Q implies went = record {
  since = went.since;
  history = went.history;
  image = went.image;
  each = λ k d within. implies (get_or went.since k d) (went.each k d within);
  size = went.size;
  honest = went.honest;
  transfers = went.transfers;
  failures = went.failures;
  quiet = went.quiet;
}

-- P holds at the end where it held at the start
pub went_last : (P : Image → Type 0) {a b : Disk} {most faults : ℕ} → Went P a b most faults → P a.image → P b.image
went_last P {a = a} went start = subst P (sym went.image) (last went.since went.each)
  where
    last : (since : List Image) → All P since → P (newest since a.image)
    last [] each = start
    last (image ∷ earlier) each = each 0 image (omega arith)
