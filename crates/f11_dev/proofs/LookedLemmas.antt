-- What carries `Looked` from call to call.
use Rattle.std.proofs.Common.{◌≡◌, ℕ, ◌+◌, ◌≤◌, true, false, refl, sym, subst, ◌∙◌, arith}
use Rattle.f11_dev.specs.Disk.{Disk, with_transfer}
use Rattle.f11_dev.specs.Looked.{Looked}

-- no transfer
pub looked_none : (d : Disk) → Looked d d 0 0
looked_none d =
    record {
      image = refl;
      history = refl;
      honest = refl;
      transfers = omega arith;
      failures = omega arith;
      quiet = λ some.
          absurd (omega arith);
    }

-- a read that succeeded
pub looked_read : (old new : Disk) → new ≡ with_transfer true old → Looked old new 1 0
looked_read old new is = subst (λ d. Looked old d 1 0) (sym is)
    record {
      image = refl;
      history = refl;
      honest = refl;
      transfers = omega arith;
      failures = omega arith;
      quiet = λ some.
          absurd (omega arith);
    }

-- a read that failed
pub looked_failed_read : (old new : Disk) → new ≡ with_transfer false old → Looked old new 1 1
looked_failed_read old new is = subst (λ d. Looked old d 1 1) (sym is)
    record { image = refl; history = refl; honest = refl; transfers = omega arith; failures = omega arith; quiet = λ some. refl }

-- one after another
pub looked_more : {a b c : Disk} {m n faults : ℕ} → Looked a b m 0 → Looked b c n faults → Looked a c (m + n) faults
looked_more first then = record {
  image = then.image ∙ first.image;
  history = then.history ∙ first.history;
  honest = then.honest ∙ first.honest;
  transfers = omega (arith, first.transfers, then.transfers);
  failures = omega (arith, first.failures, then.failures);
  quiet = then.quiet;
}

-- fewer would do
pub looked_within : {a b : Disk} {m n faults : ℕ} → Looked a b m faults → m ≤ n → Looked a b n faults
looked_within looked fewer = record {
  image = looked.image;
  history = looked.history;
  honest = looked.honest;
  transfers = omega (arith, looked.transfers, fewer);
  failures = looked.failures;
  quiet = looked.quiet;
}
