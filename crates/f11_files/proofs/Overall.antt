-- What a call that readies headers first does, put together.
use Rattle.std.proofs.Common.{◌≡◌, ℕ, ◌+◌, ◌-◌, ◌*◌, ◌/◌, ◌≤◌, ◌<◌, IsTrue, List, slice_index, sym, ap, subst, ◌∙◌, arith}
use Rattle.f11_dev.specs.Disk.{Disk}
use Rattle.f11_dev.specs.Image.{Image}
use Rattle.f11_home.specs.Home.{HomeFields}
use Rattle.f11_store.specs.Causes.{Cause}
use Rattle.f11_store.specs.Changes.{next_sequence, with_slots_first, after_create, AfterSlots, Extends}
use Rattle.f11_store.specs.Cost.{growth_cost, header_count, slots_cost}
use Rattle.f11_store.specs.File.{File}
use Rattle.f11_store.specs.Headroom.{slots_first}
use Rattle.f11_store.specs.Lags.{extend_work, new_file_work, with_headers_first, Work}
use Rattle.f11_store.specs.SlotsFirst.{IsReady}
use Rattle.f11_store.specs.Step.{next_id}
use Rattle.f11_store.specs.Store.{Store, file_named}
use Rattle.f11_store.proofs.Respects.{extend_respectful}
use Rattle.f11_store.proofs.SlotsFirst.{free-stays, named-stays, new-file-stays}
use Rattle.f11_volume.specs.Volume.{Volume}
use Rattle.f11_image_store.specs.Allocation.{GainsBlocks}
use Rattle.f11_image_store.specs.StoreOf.{store_of}
use Rattle.f11_files.specs.Answers.{Does, KeepsUnused}
use Rattle.f11_files.specs.Extending.Runs.{headers_for}
use Rattle.f11_files.specs.Operations.{extend_causes}
use Rattle.f11_files.specs.Overall.{AllotsAfter, CreatesIs, ExtendsIs}
use Rattle.f11_files.proofs.Behind.{does-read}
use Rattle.f11_files.proofs.Readied.{does-ready, honest-ready, is-ready}
use Rattle.f11_files.proofs.WriteLemmas.{writes-within}

-- fewer transfers than may be
pub does-within :
    {causes : List Cause} {work : Work} {m n : ℕ} {Makes : Store → Type 0} {Allots : Volume → Volume → Type 0} {home : HomeFields}
    {old new : Disk} →
    m ≤ n → Does causes work m Makes Allots home old new → Does causes work n Makes Allots home old new
does-within fewer does =
    record { no_cause = does.no_cause; makes = does.makes; allots = does.allots; writes = writes-within fewer does.writes }

-- the identification that a new file gets is that of the ready store
next-stays : (s t : Store) (headers : ℕ) → IsReady s (slots_first s headers) t → next_id t ≡ next_id (with_slots_first s headers)
next-stays s t headers ready = λ i.
    let slot : ℕ = slice_index (free-stays s t (slots_first s headers) ready i) 0 in
    record { number = slot; sequence = next_sequence (ready.last i slot); volume = 0 }

pub creates-is : CreatesIs
creates-is home owner protection ident attr f old new creates =
    let s : Store = store_of old.image home in
    let ready : Store = store_of creates.ready.image home in
    record {
      does =
          does-ready creates.readies (new_file_work (with_slots_first s 1) owner protection ident attr)
          (new_file_work ready owner protection ident attr)
          (λ honest. new-file-stays s ready (slots_first s 1) owner protection ident attr (is-ready creates.readies honest)) (tt, tt)
          _ 3 {Rel = λ x t. t ≡ after_create x owner protection ident attr} creates.readies.does.no_cause (λ _. omega arith)
          creates.enters.does;
      id = λ honest. creates.enters.id (honest-ready creates.readies ∙ honest) ∙ next-stays s ready 1 (is-ready creates.readies honest);
    }

-- what growing a file costs stays
pub growth-stays : (s t : Store) (m : ℕ) (f : File) (n : ℕ) → IsReady s m t → growth_cost t f n ≡ growth_cost s f n
growth-stays s t m f n ready =
    λ i. header_count f + ready.limits.bitmap_blocks i + 5 * n + (ready.limits.index_bitmap_blocks i + 8) * ((n + 101) / 102 + 1)

-- it is more than a look at each header
pub growth-more : (s : Store) (f : File) (n : ℕ) → header_count f < growth_cost s f n
growth-more s f n = by_parts (header_count f) s.bitmap_blocks (s.index_bitmap_blocks) ((n + 101) / 102)
  where
    by_parts : (h b i m : ℕ) → h < h + b + 5 * n + (i + 8) * (m + 1)
    by_parts h b i m = omega arith

pub extends-is : ExtendsIs
extends-is home f n old new other extends =
    does-within (omega (arith, growth-more s file n)) (does-read extends.reads home
    (subst (λ (i : Image). Does (extend_causes s f n) (with_headers_first (store_of i home) headers work)
    (slots_cost (store_of i home) headers + few)
    (λ t. AfterSlots (store_of i home) headers (λ (x : Store). Extends x f.number n t))
    (KeepsUnused (AllotsAfter (slots_first (store_of i home) headers) (GainsBlocks f.number n))) home extends.read new) same
    (does-ready extends.readies work (extend_work f.number (file_named ready f).room n)
    (λ honest. ap (λ (g : File). extend_work f.number g.room n) (named honest))
    (extend_respectful f.number n) (extend_causes s f n) few {Rel = λ x t. Extends x f.number n t}
    (λ honest. extends.no_cause (sym extends.reads.looked.honest ∙ honest))
    (λ honest. omega (arith, left honest)) extends.extends)))
  where
    s : Store
    s = store_of old.image home

    ready : Store
    ready = store_of extends.ready.image home

    file : File
    file = file_named s f

    headers : ℕ
    headers = headers_for home f n old

    work : Work
    work = extend_work f.number file.room n

    few : ℕ
    few = growth_cost s file n - 1 - header_count file

    same : extends.read.image ≡ old.image
    same = extends.reads.looked.image

    is : IsTrue extends.read.honest → IsReady s (slots_first (store_of extends.read.image home) headers) ready
    is honest =
        subst (λ (i : Image). IsReady (store_of i home) (slots_first (store_of extends.read.image home) headers) ready) same
        (is-ready extends.readies honest)

    -- the file is the same
    named : IsTrue extends.read.honest → file_named ready f ≡ file
    named honest = named-stays s ready _ f (is honest) other

    -- and so is what is left of the cost
    left : IsTrue extends.read.honest → growth_cost ready (file_named ready f) n - 1 - header_count (file_named ready f) ≡ few
    left honest =
        ap (λ (g : File). growth_cost ready g n - 1 - header_count g) (named honest)
        ∙ ap (λ (c : ℕ). c - 1 - header_count file) (growth-stays s ready _ file n (is honest))
