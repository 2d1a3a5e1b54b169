-- A file that was laid out once its headers were in hand: what it is then, and what stood meanwhile.
use Rattle.std.proofs.Common.{◌≡◌, ◌-◌, ◌≤◌, ◌++◌, ℕ, false, IsTrue, List, [], ◌∷◌, length, refl, sym, ap, subst, ◌∙◌, arith}
use Rattle.std.specs.List.{range_with_len}
use Rattle.std.proofs.lemmas.List.{append-nil}
use Rattle.f11_bits.specs.Bitmap.{Bitmap}
use Rattle.f11_chain.specs.FileHeaders.{file_blocks}
use Rattle.f11_chain.specs.declared.blocks.FileEnd.{FileEnd}
use Rattle.f11_dev.specs.Disk.{Disk}
use Rattle.f11_dev.specs.Image.{Image, IsImage}
use Rattle.f11_home.specs.Home.{HomeFields}
use Rattle.f11_index.specs.Table.{Table, table_of, first, IsFile}
use Rattle.f11_index.proofs.ChainLemmas.{file_of-header}
use Rattle.f11_store.specs.Changes.{with_change, LaysOut}
use Rattle.f11_store.specs.Cost.{contiguous_cost, header_count}
use Rattle.f11_store.specs.File.{File, need, run_need, run_pointers, zero_blocks}
use Rattle.f11_store.specs.Lags.{Work, LagsBy, blocks_work, contiguous_work, file_changes, one_part, with_contiguous_mark}
use Rattle.f11_store.specs.Pieces.{file_numbered, AddsBlocks}
use Rattle.f11_store.specs.Store.{Store, file_named}
use Rattle.f11_store.specs.declared.callers.Uic.{Uic}
use Rattle.f11_store.specs.declared.files.FileId.{FileId}
use Rattle.f11_store.proofs.ContiguousLaws.{blocks-come-lags, mark-comes-lags, marked-is-laid-out}
use Rattle.f11_store.proofs.PieceLagLemmas.{taken-lags}
use Rattle.f11_store.proofs.PieceLemmas.{none-zeros}
use Rattle.f11_volume.specs.Space.{storage_bitmap}
use Rattle.f11_volume.specs.Volume.{volume_of}
use Rattle.f11_image_store.specs.Allocation.{ownership_in, AddsZeroSlots, GainsBlocks, NamesMore}
use Rattle.f11_image_store.specs.StoreOf.{store_of}
use Rattle.f11_image_store.proofs.AllocationLemmas.{names-twice}
use Rattle.f11_files.specs.Answers.{IsUnderWay, KeepsUnused, Meanwhile}
use Rattle.f11_files.specs.Changing.Fields.{Alters}
use Rattle.f11_files.specs.Extending.Growing.{WhileTaking}
use Rattle.f11_files.specs.Extending.Runs.{IsTailOf}
use Rattle.f11_files.specs.Extending.Tail.{ownership_of}
use Rattle.f11_files.specs.LayingOut.Lay.{run_free, IsLaying, LayingRun, LaysRun}
use Rattle.f11_files.specs.LayingOut.Take.{TakesWholeRun, UsesRun}
use Rattle.f11_files.specs.LayingOut.Whole.{GainsRun, HoldsRunRoom, LaysOutHeld}
use Rattle.f11_files.specs.Structure.{bitmap_in, home_of, store_on, IsStructureFor, StaysFor}
use Rattle.f11_files.specs.declared.structure.Structure.{Structure}
use Rattle.f11_files.specs.declared.extend.tail.Tail.{Tail}
use Rattle.f11_files.proofs.Extending.Cleared.{covered, enough}
use Rattle.f11_files.proofs.Extending.Growing.{takes-within}
use Rattle.f11_files.proofs.Finding.First.{table-of}
use Rattle.f11_files.proofs.Finding.Locate.{length-named}
use Rattle.f11_files.proofs.Finding.Named.{block-is}
use Rattle.f11_files.proofs.GrowingIndex.ZeroSlots.{with-unused, zero-then}
use Rattle.f11_files.proofs.LayingOut.Held.{few-blocks, may-lay, no-pointers, numbered, taken-free}
use Rattle.f11_files.proofs.LayingOut.Lay.{adds-blocks, file-bounds}
use Rattle.f11_files.proofs.Removing.Freeing.{writes-none, writes-then, writes-within}

-- a list without elements
no-element : {A : Type 0} (xs : List A) → length xs ≤ 0 → xs ≡ []
no-element [] none = refl
no-element (x ∷ xs) none = absurd (omega (arith, none))

module _ (s : Structure) (f : FileId) (n : ℕ) (end : FileEnd) (was last : List ℕ) (old : Disk) (for : IsStructureFor s old)
    (own : 4 ≤ f.number) (room : HoldsRunRoom s f n end was last old) (is_image : IsImage old.image) where
  abbrev home : HomeFields
  home = home_of s

  abbrev st : Store
  st = store_on s old

  abbrev k : ℕ
  k = f.number

  abbrev named : File
  named = file_named st f

  abbrev work : Work
  work = contiguous_work k named.room n

  abbrev P : Image → Type 0
  P = Meanwhile work home old

  abbrev most : ℕ
  most = contiguous_cost st named n - 1 - header_count named

  -- blocks that come are under way
  come-lags : IsTrue old.honest → (u : Store) → LagsBy (blocks_work k n (run_need (file_numbered st k).room n)) u st → LagsBy work u st
  come-lags honest u lags =
      blocks-come-lags st u k named.room n
      (subst (λ (g : File). LagsBy (blocks_work k n (run_need g.room n)) u st)
      (numbered s f n end was last old for own room is_image honest) lags)

  -- the run is marked used
  pub take-moment : (image : Image) → WhileTaking home n 0 st old image → P image
  take-moment image is honest =
      let here = is honest in
      let may = may-lay s f n end was last old for own room is_image honest in
      record {
        sound = here.sound;
        lags = come-lags honest (store_of image home)
            (taken-lags st st (store_of image home) k n (run_pointers n) 0 0 n 0 (none-zeros st k n (run_pointers n) may.places)
            (omega arith) (omega arith)
            (takes-within n n 0 (need (file_numbered st k).room 0) st (store_of image home) (omega arith) (omega arith) here.takes));
      }

  module _ (tail : Tail) (of : IsTailOf f was end.number last tail) (t : Structure) (lbn : ℕ) (mid : Disk)
      (takes : TakesWholeRun s t n lbn old mid) (stays : StaysFor false s t mid) where
    mid-honest : IsTrue old.honest → IsTrue mid.honest
    mid-honest honest = takes.writes.went.honest ∙ honest

    number : tail.file.number ≡ k
    number = ap (λ (g : FileId). g.number) of.file_is

    free-was : IsTrue old.honest → run_free t n mid ≡ st
    free-was honest = taken-free s f n end was last old for own room is_image tail of t lbn mid takes stays honest

    pub room-mid : IsTrue old.honest → (file_numbered (store_on t mid) tail.file.number).room ≡ named.room
    room-mid honest =
        ap (λ (j : ℕ). (file_numbered (run_free t n mid) j).room) number ∙ ap (λ (x : Store). (file_numbered x k).room) (free-was honest)
        ∙ ap (λ (g : File). g.room) (numbered s f n end was last old for own room is_image honest)

    -- its blocks come
    pub lay-moment : (image : Image) → LayingRun t tail.file.number n mid image → P image
    lay-moment image is honest =
        let named_so : IsLaying (home_of t) k n (run_free t n mid) image =
        subst (λ (j : ℕ). IsLaying (home_of t) j n (run_free t n mid) image) number (is (mid-honest honest)) in
        let at_home : IsLaying home k n (run_free t n mid) image = subst (λ (h : HomeFields). IsLaying h k n (run_free t n mid) image)
        stays.home named_so in
        let here : IsLaying home k n st image = subst (λ (x : Store). IsLaying home k n x image) (free-was honest) at_home in
        record { sound = here.sound; lags = come-lags honest (store_of image home) here.lags }

    module _ (u : Structure) (laid : Disk) (lays : LaysRun t u tail lbn n mid laid) (kept : StaysFor false t u laid)
        (laid_image : IsImage laid.image) where
      abbrev sl : Store
      sl = store_of laid.image home

      pub laid-honest : IsTrue old.honest → IsTrue laid.honest
      laid-honest honest = lays.writes.went.honest ∙ mid-honest honest

      pub home-now : home_of u ≡ home
      home-now = kept.home ∙ stays.home

      pub adds : IsTrue old.honest → AddsBlocks st k n (run_pointers n) (zero_blocks n) sl
      adds honest =
          subst (λ (x : Store). AddsBlocks x k n (run_pointers n) (zero_blocks n) sl) (free-was honest)
          (subst (λ (h : HomeFields). AddsBlocks (run_free t n mid) k n (run_pointers n) (zero_blocks n) (store_of laid.image h)) stays.home
          (subst (λ (j : ℕ). AddsBlocks (run_free t n mid) j n (run_pointers n) (zero_blocks n) (store_of laid.image (home_of t))) number
          (lays.adds (mid-honest honest))))

      -- and then the mark is set
      pub mark-moment : (image : Image) → Meanwhile (one_part f.number (file_changes f.number with_contiguous_mark)) (home_of u) laid image
          → P image
      mark-moment image is honest =
          let here : IsUnderWay (one_part k (file_changes k with_contiguous_mark)) home laid.image image =
          subst (λ (h : HomeFields). IsUnderWay (one_part k (file_changes k with_contiguous_mark)) h laid.image image) home-now
          (is (laid-honest honest)) in
          record {
            sound = here.sound;
            lags =
                subst (λ (g : File). LagsBy (contiguous_work k g.room n) (store_of image home) st)
                (numbered s f n end was last old for own room is_image honest)
                (mark-comes-lags st sl (store_of image home) k n (adds honest) here.lags);
          }

      names-laid : IsTrue old.honest
          → NamesMore k (ownership_in ((table_of old.image home).header k)) (range_with_len lbn n) (table_of old.image home)
          (table_of laid.image home)
      names-laid honest =
          let same : ownership_of tail ≡ ownership_in ((table_of old.image home).header k) =
          (λ i. (of.owner_is i, of.protection_is i)) ∙ ap ownership_in (block-is s f was old for room.ends.holds honest) in
          subst (λ (x : Table). NamesMore k (ownership_in ((table_of old.image home).header k)) (range_with_len lbn n) x
          (table_of laid.image home)) (takes.keeps honest).index_file.table
          (subst (λ (h : HomeFields). NamesMore k (ownership_in ((table_of old.image home).header k)) (range_with_len lbn n)
          (table_of mid.image h) (table_of laid.image h)) stays.home
          (subst (λ (w : Uic × ℕ). NamesMore k w (range_with_len lbn n) (table_of mid.image (home_of t)) (table_of laid.image (home_of t)))
          same
          (subst (λ (j : ℕ). NamesMore j (ownership_of tail) (range_with_len lbn n) (table_of mid.image (home_of t))
          (table_of laid.image (home_of t))) number (lays.names (mid-honest honest)))))

      module _ (new : Disk) (marks : Alters with_contiguous_mark (home_of u) f laid new)
          (gains : IsTrue laid.honest
          → KeepsUnused (GainsBlocks k 0) (volume_of laid.image (home_of u)) (volume_of new.image (home_of u))) where
        makes : IsTrue old.honest → LaysOut st k n (store_of new.image home)
        makes honest =
            let store : store_of new.image home ≡ with_change sl k with_contiguous_mark =
            subst (λ (h : HomeFields). store_of new.image h ≡ with_change (store_of laid.image h) k with_contiguous_mark) home-now
            (marks.makes (laid-honest honest)) in
            let none = few-blocks s f n end was last old for own room is_image honest in
            let same = ap (λ (g : File). length g.blocks) (numbered s f n end was last old for own room is_image honest) in
            let file : IsFile (table_of laid.image home) k =
            file_of-header ((names-laid honest).headers k (first (names-laid honest).says.file)) in
            let bounds = file-bounds home laid.image k laid_image own file in
            let long = adds-blocks st sl k n (run_pointers n) (adds honest) in
            subst (LaysOut st k n) (sym store)
            (marked-is-laid-out st sl k n (no-element (file_numbered st k).blocks (omega (arith, none, same)))
            (no-pointers s f n end was last old for own room is_image honest) (adds honest) (omega (arith, bounds.1, long)))

        names-new : IsTrue old.honest
            → NamesMore k (ownership_in ((table_of old.image home).header k)) (range_with_len lbn n) (table_of old.image home)
            (table_of new.image home)
        unfolding volume_of
        names-new honest =
            let o : Uic × ℕ = ownership_in ((table_of old.image home).header k) in
            let laid_names = names-laid honest in
            let marked : GainsBlocks k 0 (volume_of laid.image home) (volume_of new.image home) =
            subst (λ (h : HomeFields). GainsBlocks k 0 (volume_of laid.image h) (volume_of new.image h)) home-now
            (gains (laid-honest honest)).allots in
            subst (λ (l : List ℕ). NamesMore k o l (table_of old.image home) (table_of new.image home)) (append-nil (range_with_len lbn n))
            (names-twice k o (range_with_len lbn n) [] (table_of old.image home) (table_of laid.image home) (table_of new.image home)
            laid_names
            (subst (λ (w : Uic × ℕ). NamesMore k w [] (table_of laid.image home) (table_of new.image home)) laid_names.says.first
            marked.names))

        no-blocks : IsTrue old.honest → file_blocks (table_of old.image home) k ≡ []
        no-blocks honest =
            let long = length-named s f was old for room.ends.holds honest own in
            let none = few-blocks s f n end was last old for own room is_image honest in
            ap (λ (x : Table). file_blocks x k) (sym (table-of s old for honest)) ∙ no-element _ (omega (arith, long, none))

        size-laid : IsTrue old.honest → (volume_of laid.image home).size ≡ (volume_of mid.image home).size
        unfolding volume_of
        size-laid honest =
            let then : bitmap_in u ≡ storage_bitmap laid.image home = (kept.keeps refl (laid-honest honest)).bitmap_is
            ∙ ap (storage_bitmap laid.image) home-now in
            let before : bitmap_in t ≡ storage_bitmap mid.image home = (stays.keeps refl (mid-honest honest)).bitmap_is
            ∙ ap (storage_bitmap mid.image) stays.home in
            ap (λ (b : Bitmap). b.size) (sym then ∙ lays.bitmap ∙ before)

        uses : IsTrue old.honest → UsesRun lbn n (volume_of old.image home) (volume_of new.image home)
        uses honest =
            let taken = takes.uses honest in
            let there = laid-honest honest in
            let free_laid : (volume_of laid.image home).free ≡ (volume_of mid.image home).free =
            subst (λ (h : HomeFields). (volume_of laid.image h).free ≡ (volume_of mid.image h).free) stays.home
            (lays.free (mid-honest honest)) in
            let free_new : (volume_of new.image home).free ≡ (volume_of laid.image home).free =
            subst (λ (h : HomeFields). (volume_of new.image h).free ≡ (volume_of laid.image h).free) home-now (marks.allots there).free in
            let size_new : (volume_of new.image home).size ≡ (volume_of laid.image home).size =
            subst (λ (h : HomeFields). (volume_of new.image h).size ≡ (volume_of laid.image h).size) home-now (marks.allots there).size in
            record {
              size = size_new ∙ size-laid honest ∙ taken.size;
              free = λ j. (λ i. free_new i j) ∙ (λ i. free_laid i j) ∙ taken.free j;
            }

        gains-run : IsTrue old.honest → GainsRun k n (volume_of old.image home) (volume_of new.image home)
        unfolding volume_of
        gains-run honest =
            let names = names-new honest in
            record {
              lbn = lbn;
              first = takes.first honest;
              blocks = names.blocks ∙ ap (λ (l : List ℕ). l ++ range_with_len lbn n) (no-blocks honest);
              names = names;
              uses = uses honest;
            }

        -- slots that aren't in use keep what they hold
        slots-kept : IsTrue old.honest → AddsZeroSlots (table_of old.image home) (table_of new.image home)
        unfolding volume_of
        slots-kept honest =
            let laid_slots : AddsZeroSlots (table_of old.image home) (table_of laid.image home) =
            subst (λ (x : Table). AddsZeroSlots x (table_of laid.image home)) (takes.keeps honest).index_file.table
            (subst (λ (h : HomeFields). AddsZeroSlots (table_of mid.image h) (table_of laid.image h)) stays.home
            (lays.slots (mid-honest honest))) in
            zero-then (table_of old.image home) (table_of laid.image home) (table_of new.image home) laid_slots
            (subst (λ (h : HomeFields). AddsZeroSlots (table_of laid.image h) (table_of new.image h)) home-now
            (gains (laid-honest honest)).slots)

        pub lays-out-held : LaysOutHeld home f n old new
        lays-out-held = record {
          no_cause = room.no_cause;
          makes = makes;
          allots = λ honest. with-unused (GainsRun k n) home old.image new.image (gains-run honest) (slots-kept honest);
          writes =
              writes-within (λ honest.
              let same = room-mid honest in
              let size = covered s old for honest in
              let many = enough st.index_bitmap_blocks (run_need named.room n) in
              let inside = takes.within in
              omega (arith, same, size, many, inside))
              (writes-then mark-moment (writes-then lay-moment (writes-then take-moment (writes-none P 0 old) takes.writes) lays.writes)
              marks.writes);
        }
