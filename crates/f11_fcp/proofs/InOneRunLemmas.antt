-- Files that are laid out in one run.
use Rattle.std.proofs.Common.{◌≡◌, ◌≢◌, ℕ, Bool, true, false, IsTrue, List, Option, Some, None, Result, Ok, Err, refl, sym, subst, ap, ◌∙◌}
use Rattle.std.specs.List.{range_with_len}
use Rattle.std.proofs.lemmas.Option.{same_Some}
use Rattle.f11_bits.specs.Bitmap.{is_free}
use Rattle.f11_bits.specs.Run.{IsFirstRunOf, NoRunOf}
use Rattle.f11_chain.specs.FileHeaders.{file_blocks}
use Rattle.f11_dev.specs.Image.{Image}
use Rattle.f11_home.specs.Home.{HomeFields}
use Rattle.f11_files.specs.index.Table.{table_of}
use Rattle.f11_store.specs.Causes.{first_refusal}
use Rattle.f11_store.specs.Step.{MayRefuse}
use Rattle.f11_store.specs.Store.{id_held}
use Rattle.f11_store.specs.declared.callers.Uic.{Uic}
use Rattle.f11_store.specs.declared.refusals.Refusal.{Refusal}
use Rattle.f11_store.specs.declared.refusals.Refusal.TheVariants.{NoRun}
use Rattle.f11_store.specs.declared.requests.Reply.{Reply}
use Rattle.f11_store.specs.declared.requests.Request.{Request}
use Rattle.f11_store.specs.declared.requests.Request.TheVariants as request
use Rattle.f11_files.specs.volume.Space.{storage_bitmap}
use Rattle.f11_files.specs.volume.Volume.{Volume, volume_of}
use Rattle.f11_files.specs.LayingOut.Whole.{GainsRun}
use Rattle.f11_fcp.specs.Handles.{Handles, State, store_at}
use Rattle.f11_fcp.specs.InOneRun.{free_in, InOneRun, LiesInRun, run_of}

-- of a request that asks for none nothing more is said
pub no-run :
    (task : ℕ) (caller : Uic) (r : Request) (result : Result Reply Refusal) (old new : State) → run_of r ≡ None →
    InOneRun task caller r result old new
no-run task caller r result old new none lun n is = absurd (let no : None ≡ Some (lun, n) = sym none ∙ is in cc)

-- where no cause stands against a request for one, only the lack of a run may be the answer
lacking-alone : (o : Option Refusal) (e : Refusal) → MayRefuse o false true e → o ≡ None → e ≡ NoRun
lacking-alone None e may none = may
lacking-alone (Some x) e may none = absurd (cc)

-- which blocks are free is the image's, and so is what a file has
free-then : (image image' : Image) (home home' : HomeFields) → image' ≡ image → home' ≡ home
    → (volume_of image' home').free ≡ is_free image (storage_bitmap image home)
unfolding volume_of
free-then image image' home home' same same' =
    ap (λ (i : Image). is_free i (storage_bitmap i home')) same ∙ ap (λ (h : HomeFields). is_free image (storage_bitmap image h)) same'

rows-then : (image : Image) (home home' : HomeFields) (k : ℕ) (row : List ℕ) → home' ≡ home
    → file_blocks (volume_of image home').table k ≡ row
    → file_blocks (table_of image home) k ≡ row
unfolding volume_of
rows-then image home home' k row same is = subst (λ (h : HomeFields). file_blocks (table_of image h) k ≡ row) same is

module _ (task : ℕ) (caller : Uic) (lun n : ℕ) (old new : State) where
  -- the request
  abbrev r : Request
  r = request.Contiguous lun n

  -- what is said of this run is said of what it asks for
  asked : {result : Result Reply Refusal} → (IsTrue old.disk.honest → LiesInRun task caller lun n result old new)
      → InOneRun task caller r result old new
  asked {result = result} lies lun' n' is honest =
      subst (λ (p : ℕ × ℕ). LiesInRun task caller p.0 p.1 result old new) (same_Some (lun, n) (lun', n') is) (lies honest)

  -- it is refused otherwise: for its first cause, or it failed the volume
  pub refused-otherwise : (e : Refusal) (block block' : List ℕ) → e ≢ NoRun → Handles task caller r (Err e) old block new block'
      → InOneRun task caller r (Err e) old new
  refused-otherwise e block block' other handles = asked (λ honest. record {
    refused = λ is. absurd (other (let same : e ≡ NoRun = cc in same));
    no_run = λ none lacks clean.
        absurd (other (lacking-alone (first_refusal (store_at old) task caller r) e (handles.step honest clean).may_refuse none));
    lies = tt;
  })

  module _ (mid : State) (image : mid.disk.image ≡ old.disk.image) (home : mid.home ≡ old.home) where
    abbrev v : Volume
    v = volume_of mid.disk.image mid.home

    free : v.free ≡ free_in old
    free = free-then old.disk.image mid.disk.image old.home mid.home image home

    -- no run was found
    pub refused-lacking : (IsTrue old.disk.honest → first_refusal (store_at old) task caller r ≡ None)
        → (IsTrue old.disk.honest → NoRunOf v.free n) → InOneRun task caller r (Err NoRun) old new
    refused-lacking none lacks = asked (λ honest. record {
      refused = λ _. (none honest, subst (λ (f : ℕ → Bool). NoRunOf f n) free (lacks honest));
      no_run = λ _ _ _. refl;
      lies = tt;
    })

    -- one was
    pub lies-in-run : (reply : Reply) (k : ℕ) → k ≡ (id_held (store_at old) task lun).number
        → (IsTrue old.disk.honest → GainsRun k n v (volume_of new.disk.image mid.home)) → InOneRun task caller r (Ok reply) old new
    lies-in-run reply k same gains = asked (λ honest. lies (gains honest))
      where
        lies : GainsRun k n v (volume_of new.disk.image mid.home) → LiesInRun task caller lun n (Ok reply) old new
        lies gained =
            let first : IsFirstRunOf (free_in old) n gained.lbn = subst (λ (f : ℕ → Bool). IsFirstRunOf f n gained.lbn) free gained.first in
            record {
              refused = λ is. absurd (cc);
              no_run = λ none lacks clean. absurd (lacks gained.lbn first.each);
              lies = (
                gained.lbn,
                first,
                subst (λ (m : ℕ). file_blocks (table_of new.disk.image old.home) m ≡ range_with_len gained.lbn n) same
                    (rows-then new.disk.image old.home mid.home k (range_with_len gained.lbn n) home gained.blocks),
              );
            }
