-- Changes of a store that take nothing.
use Rattle.std.proofs.Common.{◌≡◌, ℕ, ◌≤◌, ◌==◌, ◌&&◌, ◌||◌, Bool, true, false, List, [], ◌∷◌, Option, Some, None, fold, if◌then◌else◌}
use Rattle.std.proofs.Common.{refl, ◌∙◌, arith}
use Rattle.f11_store.specs.File.{File}
use Rattle.f11_store.specs.Store.{Store, Access}
use Rattle.f11_store.specs.Changes.{with_change, with_access, is_due, without_file_at, after_giving_up, after_deaccess}
use Rattle.f11_store.proofs.RecordLemmas.{neither}
use Rattle.f11_store.specs.Lags.{SameLimits, go_work, no_work, give_up_work, deaccess_work, release_work}

-- a change that takes nothing: other files stay, and what was free is free
pub record Frees (s : Store) (meant : ℕ → Bool) (t : Store) : Type 0 where
  pub others : (n : ℕ) → meant n ≡ false → t.file n ≡ s.file n
  pub free : s.free ≤ t.free
  pub unused : (n : ℕ) → s.in_use n ≡ false → t.in_use n ≡ false
  pub last : (n : ℕ) → t.last n ≡ s.last n
  pub slots : t.slots ≡ s.slots
  pub limits : SameLimits s t

-- what never changes is the same
pub same_limits : {s t : Store} → t.bitmap_blocks ≡ s.bitmap_blocks → t.index_bitmap_blocks ≡ s.index_bitmap_blocks → t.limit ≡ s.limit
    → SameLimits s t
same_limits b i l = record { bitmap_blocks = b; index_bitmap_blocks = i; limit = l }

pub same_limits_then : (s t u : Store) → SameLimits s t → SameLimits t u → SameLimits s u
same_limits_then s t u h k = record {
  bitmap_blocks = k.bitmap_blocks ∙ h.bitmap_blocks;
  index_bitmap_blocks = k.index_bitmap_blocks ∙ h.index_bitmap_blocks;
  limit = k.limit ∙ h.limit;
}

pub frees_nothing : (s : Store) (meant : ℕ → Bool) → Frees s meant s
frees_nothing s meant =
    record {
      others = λ n h. refl;
      free = omega arith;
      unused = λ n h. h;
      last = λ n. refl;
      slots = refl;
      limits = same_limits refl refl refl;
    }

pub frees_then : (s t u : Store) (meant : ℕ → Bool) → Frees s meant t → Frees t meant u → Frees s meant u
frees_then s t u meant h k = record {
  others = λ n out. k.others n out ∙ h.others n out;
  free = omega arith;
  unused = λ n e. k.unused n (h.unused n e);
  last = λ n. k.last n ∙ h.last n;
  slots = k.slots ∙ h.slots;
  limits = same_limits_then s t u h.limits k.limits;
}

-- a change of one file
pub frees_change : (s : Store) (k : ℕ) (change : File → File) → Frees s (λ n. n == k) (with_change s k change)
frees_change s k change = record {
  others = λ n out. rw out;
  free = omega arith;
  unused = λ n h. h;
  last = λ n. refl;
  slots = refl;
  limits = same_limits refl refl refl;
}

-- a file that goes
pub frees_without_file : (s : Store) (k : ℕ) → Frees s (λ n. n == k) (without_file_at s k)
frees_without_file s k = record {
  others = λ n out. rw out;
  free = omega arith;
  unused = λ n h. out_of_use _ (s.in_use n) h;
  last = λ n. refl;
  slots = refl;
  limits = same_limits refl refl refl;
}
  where
    out_of_use : (b c : Bool) → c ≡ false → (b && c) ≡ false
    out_of_use true c h = h
    out_of_use false c h = refl

-- an access that is taken or given up
pub frees_access : (s : Store) (meant : ℕ → Bool) (task lun : ℕ) (a : Option Access) → Frees s meant (with_access s task lun a)
frees_access s meant task lun a =
    record {
      others = λ n out. refl;
      free = omega arith;
      unused = λ n h. h;
      last = λ n. refl;
      slots = refl;
      limits = same_limits refl refl refl;
    }

-- what is given up
pub frees_given_up : (s : Store) (task lun : ℕ) (o : Option Access)
    → Frees s (give_up_work s task lun o).is_meant (after_giving_up s task lun o)
frees_given_up s task lun None = frees_nothing s no_work.is_meant
frees_given_up s task lun (Some a) = by_test (is_due (with_access s task lun None) a.file)
  where
    by_test : (b : Bool) →
        Frees s (if b then go_work a.file.number else no_work).is_meant
        (if b then without_file_at (with_access s task lun None) a.file.number else with_access s task lun None)
    by_test true =
        frees_then s (with_access s task lun None) (without_file_at (with_access s task lun None) a.file.number) (λ n. n == a.file.number)
        (frees_access s (λ n. n == a.file.number) task lun None) (frees_without_file (with_access s task lun None) a.file.number)
    by_test false = frees_access s no_work.is_meant task lun None

pub frees_deaccess : (s : Store) (task lun : ℕ) → Frees s (deaccess_work s task lun).is_meant (after_deaccess s task lun)
frees_deaccess s task lun = frees_given_up s task lun (s.access task lun)

-- one change, then another
frees_both : (s t u : Store) (meant more : ℕ → Bool) → Frees s meant t → Frees t more u → Frees s (λ n. meant n || more n) u
frees_both s t u meant more h k = record {
  others = λ n out. k.others n (neither (meant n) (more n) out).1 ∙ h.others n (neither (meant n) (more n) out).0;
  free = omega (arith, h.free, k.free);
  unused = λ n e. k.unused n (h.unused n e);
  last = λ n. k.last n ∙ h.last n;
  slots = k.slots ∙ h.slots;
  limits = same_limits_then s t u h.limits k.limits;
}

pub frees_release :
    (luns : List ℕ) (s : Store) (task : ℕ) → Frees s (release_work s task luns).is_meant (fold (λ t lun. after_deaccess t task lun) s luns)
frees_release [] s task = frees_nothing s no_work.is_meant
frees_release (lun ∷ luns) s task =
    frees_both s (after_deaccess s task lun) (fold (λ t l. after_deaccess t task l) (after_deaccess s task lun) luns)
    (deaccess_work s task lun).is_meant (release_work (after_deaccess s task lun) task luns).is_meant
    (frees_deaccess s task lun) (frees_release luns (after_deaccess s task lun) task)
