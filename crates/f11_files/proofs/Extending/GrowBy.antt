-- Runs of free blocks, one after another, until a file has as many as it is to have.
use Rattle.std.proofs.Common.{◌==◌, ◌≡◌, ◌⊎◌, ◌+◌, ◌-◌, ◌*◌, ◌/◌, ◌≤◌, ℕ, false, IsTrue, length, inl, inr, unwrap_or, refl, sym, ap, subst}
use Rattle.std.proofs.Common.{◌∙◌, arith, Option}
use Rattle.f11_bits.specs.Bitmap.{Bitmap, IsBitmap}
use Rattle.f11_bits.specs.Transfers.{blocks_from}
use Rattle.f11_dev.specs.Disk.{Disk}
use Rattle.f11_dev.specs.Image.{Image}
use Rattle.f11_dev.proofs.LookedLemmas.{looked_none}
use Rattle.f11_dev.proofs.WentLemmas.{went_looked, went_more, went_weaker}
use Rattle.f11_home.specs.Home.{HomeFields}
use Rattle.f11_store.specs.File.{File, no_file, need}
use Rattle.f11_store.specs.Lags.{Work, LagsBy}
use Rattle.f11_store.specs.Store.{Store}
use Rattle.f11_store.specs.declared.callers.Uic.{Uic}
use Rattle.f11_store.specs.declared.files.FileId.{FileId}
use Rattle.f11_store.specs.declared.refusals.Refusal.{Refusal}
use Rattle.f11_volume.specs.Sound.{HasSoundVolume}
use Rattle.f11_volume.specs.Volume.{volume_of}
use Rattle.f11_image_store.specs.Allocation.{GainsBlocksAs, AddsZeroSlots}
use Rattle.f11_files.specs.Answers.{Meanwhile, WritesAtMost, Breaks}
use Rattle.f11_files.specs.Extending.Runs.{AddsRun, GrowsByRuns}
use Rattle.f11_files.specs.Extending.Growing.{GrowingBy, Grew, IsGrowing}
use Rattle.f11_store.specs.Pieces.{file_numbered, TakesSome, GrowsAs, MayGrowAs, piece_work_of}
use Rattle.f11_image_store.specs.StoreOf.{store_of}
use Rattle.f11_files.specs.Structure.{bitmap_in, home_of, store_on, IsStructureFor, StaysFor}
use Rattle.f11_files.specs.Extending.Tail.{HoldsLast, whose, ownership_of}
use Rattle.f11_files.specs.Extending.Take.{NoneFreeBelow}
use Rattle.f11_files.specs.declared.structure.Structure.{Structure}
use Rattle.f11_files.specs.declared.extend.tail.Tail.{Tail}
use Rattle.f11_image_store.proofs.AllocationLemmas.{gains-nothing, gains-add}
use Rattle.f11_files.proofs.Removing.Freeing.{breaks-behind, breaks-within, stays-then}
use Rattle.f11_files.proofs.Extending.Growing.{grew-within}
use Rattle.f11_index.proofs.ChainLemmas.{file_of-header}
use Rattle.f11_index.specs.Kept.{room}
use Rattle.f11_store.specs.Pieces.{GrowsSome}
use Rattle.f11_index.specs.Table.{table_of}
use Rattle.f11_files.specs.Extending.Slots.{GetsBlocks}
use Rattle.f11_store.proofs.GrowsLagLemmas.{growth-lags, growth-taken-lags}
use Rattle.f11_store.proofs.GrowsLemmas.{grows-twice, none-grow, others-may}
use Rattle.f11_files.proofs.GrowingIndex.ZeroSlots.{zero-same, zero-then}

-- the work of growing, of a file whose last header is in hand
abbrev pub tail_work : Structure → Tail → ℕ → Disk → Work
tail_work s tail n old = piece_work_of tail.file.number (file_numbered (store_on s old) tail.file.number).room n n

-- So many of the blocks are the file's, and so many are left: none below `from` is free.
pub record GrowingOn (s t : Structure) (tail later : Tail) (n from left : ℕ) (old now : Disk) : Type 0 where
  pub done : ℕ
  pub sum : done + left ≡ n
  pub file : whose later ≡ whose tail
  pub last : HoldsLast t later now
  pub stays : StaysFor false s t now
  pub bitmap : bitmap_in t ≡ bitmap_in s
  pub reserved : IsTrue (tail.file.number == 1) → left ≤ room t.index
  pub within : from ≤ (bitmap_in s).size
  pub none_below : IsTrue old.honest → NoneFreeBelow now.image (bitmap_in s) from
  pub gains :
      IsTrue old.honest → GainsBlocksAs tail.file.number (ownership_of tail) done (volume_of old.image (home_of s))
      (volume_of now.image (home_of s))
  pub slots : IsTrue old.honest → AddsZeroSlots (table_of old.image (home_of s)) (table_of now.image (home_of s))
  pub grew : Grew (Meanwhile (tail_work s tail n old) (home_of s) old) (home_of s) (store_on s old) tail.file.number done done
      (from / 4096 + 5 * done) old now

module _ (s : Structure) (tail : Tail) (n : ℕ) (old : Disk) (for : IsStructureFor s old) (last : HoldsLast s tail old)
    (reserved : IsTrue (tail.file.number == 1) → n ≤ room s.index)
    (may : IsTrue old.honest → MayGrowAs (store_on s old) tail.file.number n n) where
  abbrev home : HomeFields
  home = home_of s

  abbrev k : ℕ
  k = tail.file.number

  abbrev st : Store
  st = store_on s old

  abbrev P : Image → Type 0
  P = Meanwhile (tail_work s tail n old) home old

  nothing-gained : IsTrue old.honest → GainsBlocksAs k (ownership_of tail) 0 (volume_of old.image home) (volume_of old.image home)
  unfolding volume_of
  nothing-gained honest = gains-nothing k (ownership_of tail) (volume_of old.image home) (file_of-header (last.is_last honest).of)

  pub growing-none : GrowingOn s s tail tail n 0 n old old
  growing-none = record {
    done = 0;
    sum = omega arith;
    file = refl;
    last = last;
    stays = record { home = refl; lies = λ _. for.lies; sound = for.sound; keeps = λ _. for.keeps };
    bitmap = refl;
    reserved = reserved;
    within = omega arith;
    none_below = λ honest j low. absurd (omega (arith, low));
    gains = nothing-gained;
    slots = λ honest. zero-same (table_of old.image home);
    grew = record {
      grows = λ honest. none-grow st k n n (may honest);
      transfers = 0;
      went = went_looked P (looked_none old);
      few = λ honest. omega arith;
    };
  }

  pub sound-moment : (image : Image) → P image → IsTrue old.honest → HasSoundVolume image home
  sound-moment image is honest = (is honest).sound

  module _ (t : Structure) (later : Tail) (from left : ℕ) (now : Disk) (so_far : GrowingOn s t tail later n from left old now) where
    abbrev tn : Store
    tn = store_of now.image home

    now-honest : IsTrue old.honest → IsTrue now.honest
    now-honest honest = so_far.grew.went.honest ∙ honest

    was-honest : IsTrue now.honest → IsTrue old.honest
    was-honest honest = sym so_far.grew.went.honest ∙ honest

    number : later.file.number ≡ k
    number = ap (λ (w : FileId × Uic × ℕ). w.0.number) so_far.file

    ownership : ownership_of later ≡ ownership_of tail
    ownership = ap (λ (w : FileId × Uic × ℕ). (w.1, w.2)) so_far.file

    -- what the file has so far
    abbrev has : IsTrue old.honest → GrowsAs st k so_far.done so_far.done tn
    has = so_far.grew.grows

    pub next-gets : GetsBlocks tail.file.number → GetsBlocks later.file.number
    next-gets gets = subst GetsBlocks (sym number) gets

    pub next-reserved : IsTrue (later.file.number == 1) → left ≤ room t.index
    next-reserved is = so_far.reserved (ap (λ (j : ℕ). j == 1) (sym number) ∙ is)

    pub next-may : IsTrue now.honest → MayGrowAs (store_on t now) later.file.number left left
    next-may honest =
        let before = was-honest honest in
        let rest : n - so_far.done ≡ left = let sum = so_far.sum in omega (arith, sum) in
        let few : so_far.done ≤ n = let sum = so_far.sum in omega (arith, sum) in
        subst (λ (h : HomeFields). MayGrowAs (store_of now.image h) later.file.number left left) (sym so_far.stays.home)
        (subst (λ (j : ℕ). MayGrowAs tn j left left) (sym number)
        (subst (λ (m : ℕ). MayGrowAs tn k m m) rest (others-may st tn k n so_far.done n so_far.done (may before) (has before) few few)))

    pub next-below : IsTrue now.honest → NoneFreeBelow now.image (bitmap_in t) from
    next-below honest = subst (λ (b : Bitmap). NoneFreeBelow now.image b from) (sym so_far.bitmap) (so_far.none_below (was-honest honest))

    -- images that stand meanwhile
    lags : IsTrue old.honest → (u : Store) → TakesSome left (need (file_numbered tn k).room left) tn u ⊎ GrowsSome tn k left left u
        → LagsBy (tail_work s tail n old) u st
    lags honest u (inl takes) =
        let few : so_far.done + left ≤ n = let sum = so_far.sum in omega (arith, sum) in
        growth-taken-lags st tn u k n n so_far.done left so_far.done left (has honest) few few takes
    lags honest u (inr some) =
        let few : so_far.done + some.0 ≤ n = let sum = so_far.sum in let less = some.1 in omega (arith, sum, less) in
        let fewer : so_far.done + left ≤ n = let sum = so_far.sum in omega (arith, sum) in
        growth-lags st u k n n (so_far.done + some.0) (so_far.done + left)
        (grows-twice st tn u k n n so_far.done some.0 so_far.done left (may honest) fewer (has honest) some.2).0 few fewer

    moment : (image : Image) → GrowingBy (home_of t) (store_on t now) later.file.number left left now image → P image
    moment image is honest =
        let named : IsGrowing (home_of t) left (need (file_numbered (store_on t now) k).room left) (GrowsSome (store_on t now) k left left)
        (store_on t now) image =
        subst (λ (j : ℕ). IsGrowing (home_of t) left (need (file_numbered (store_on t now) j).room left)
        (GrowsSome (store_on t now) j left left) (store_on t now) image) number (is (now-honest honest)) in
        let here : IsGrowing home left (need (file_numbered tn k).room left) (GrowsSome tn k left left) tn image =
        subst (λ (h : HomeFields). IsGrowing h left (need (file_numbered (store_of now.image h) k).room left)
        (GrowsSome (store_of now.image h) k left left) (store_of now.image h) image) so_far.stays.home named in
        record { sound = here.sound; lags = lags honest (store_of image home) here.stage }

    -- no more headers were added than may be needed
    few-added : (honest : IsTrue old.honest) → (so_far.grew.grows honest).grows.added ≤ need (file_numbered st k).room n
    few-added honest =
        let grown = (so_far.grew.grows honest).grows in
        let room : grown.before.room ≡ (file_numbered st k).room = ap (λ (o : Option File). (unwrap_or o no_file).room) (sym grown.was) in
        let headers = grown.may_grow.headers in
        let sum = so_far.sum in
        omega (arith, headers, room, sum)

    written : WritesAtMost P (from / 4096 + 5 * so_far.done + 3 * need (file_numbered st k).room n) old now 0
    written = record {
      transfers = so_far.grew.transfers;
      went = so_far.grew.went;
      few = λ honest. let here = so_far.grew.few honest in let few = few-added honest in omega (arith, here, few);
    }

    bitmap-blocks : IsTrue old.honest → st.bitmap_blocks ≡ length (bitmap_in s).places
    unfolding store_of
    bitmap-blocks honest = sym (ap (λ (b : Bitmap). length b.places) (for.keeps honest).bitmap_is)

    pub fails-run : (new : Disk) (r : Refusal)
        → Breaks (GrowingBy (home_of t) (store_on t now) later.file.number left left now) (blocks_from (bitmap_in t) from + 5 * left + 3) r
        now new
        → Breaks P (st.bitmap_blocks + 5 * n + 3 * need (file_numbered st k).room n + 3) r old new
    fails-run new r breaks =
        let is : IsBitmap (bitmap_in s) = s.storage.valid in
        let places = ap (λ (b : Bitmap). length b.places) so_far.bitmap in
        let sum = so_far.sum in
        breaks-within (λ honest. let blocks = bitmap-blocks honest in omega (arith, blocks, places, sum, so_far.within, is.covered))
        (breaks-behind moment written breaks)

    module _ (u : Structure) (after : Tail) (end count : ℕ) (new : Disk) (adds : AddsRun t u later after from left end count now new)
        (kept : StaysFor false t u new) where
      abbrev most : ℕ
      most = end / 4096 - from / 4096 + 5 * count

      -- the run
      run : IsTrue old.honest → (e : GrowsAs tn k count count (store_of new.image home)) × (adds.grew.transfers ≤ most + 3 * e.grows.added)
      run honest =
          let there = now-honest honest in
          subst (λ (h : HomeFields). (e : GrowsAs (store_of now.image h) k count count (store_of new.image h))
          × (adds.grew.transfers ≤ most + 3 * e.grows.added)) so_far.stays.home
          (subst (λ (j : ℕ). (e : GrowsAs (store_on t now) j count count (store_of new.image (home_of t)))
          × (adds.grew.transfers ≤ most + 3 * e.grows.added)) number (adds.grew.grows there, adds.grew.few there))

      both : (honest : IsTrue old.honest)
          → (e : GrowsAs st k (so_far.done + count) (so_far.done + count) (store_of new.image home))
          × (e.grows.added ≡ (has honest).grows.added + (run honest).0.grows.added)
      both honest =
          let few : so_far.done + count ≤ n = let sum = so_far.sum in let asked = adds.asked in omega (arith, sum, asked) in
          grows-twice st tn (store_of new.image home) k n n so_far.done count so_far.done count (may honest) few (has honest) (run honest).0

      pub growing-more : GrowingOn s u tail after n end (left - count) old new
      growing-more = record {
        done = so_far.done + count;
        sum = let sum = so_far.sum in let asked = adds.asked in omega (arith, sum, asked);
        file = adds.file ∙ so_far.file;
        last = adds.last;
        stays = stays-then so_far.stays.home kept;
        bitmap = adds.bitmap ∙ so_far.bitmap;
        reserved = λ is. let room = so_far.reserved is in let used = adds.left in omega (arith, room, used);
        within = let same = ap (λ (b : Bitmap). b.size) so_far.bitmap in let inside = adds.within in omega (arith, same, inside);
        none_below = λ honest. subst (λ (b : Bitmap). NoneFreeBelow new.image b end) so_far.bitmap (adds.none_below (now-honest honest));
        gains = λ honest.
            gains-add k (ownership_of tail) so_far.done count (volume_of old.image home) (volume_of now.image home)
            (volume_of new.image home)
            (so_far.gains honest)
            (subst (λ (h : HomeFields). GainsBlocksAs k (ownership_of tail) count (volume_of now.image h) (volume_of new.image h))
            so_far.stays.home
            (subst (λ (w : Uic × ℕ). GainsBlocksAs k w count (volume_of now.image (home_of t)) (volume_of new.image (home_of t))) ownership
            (subst (λ (j : ℕ). GainsBlocksAs j (ownership_of later) count (volume_of now.image (home_of t))
            (volume_of new.image (home_of t))) number
            (adds.gains (now-honest honest)))));
        slots = λ honest.
            zero-then (table_of old.image home) (table_of now.image home) (table_of new.image home) (so_far.slots honest)
            (subst (λ (h : HomeFields). AddsZeroSlots (table_of now.image h) (table_of new.image h)) so_far.stays.home
            (adds.slots (now-honest honest)));
        grew = record {
          grows = λ honest. (both honest).0;
          transfers = so_far.grew.transfers + adds.grew.transfers;
          went = went_more P so_far.grew.went
              (went_weaker (GrowingBy (home_of t) (store_on t now) later.file.number left left now) P moment adds.grew.went);
          few = λ honest.
              let here = so_far.grew.few honest in
              let more = (run honest).1 in
              let sum = (both honest).1 in
              let above = adds.above in
              omega (arith, here, more, sum, above);
        };
      }

    pub growing-done : left ≤ 0 → GrowsByRuns s k (ownership_of tail) n old now
    growing-done none =
        let all : so_far.done ≡ n = let sum = so_far.sum in omega (arith, sum, none) in
        record {
          gains = λ honest.
              subst (λ (m : ℕ). GainsBlocksAs k (ownership_of tail) m (volume_of old.image home) (volume_of now.image home)) all
              (so_far.gains honest);
          slots = so_far.slots;
          grew =
              subst (λ (m : ℕ). Grew P home st k m m ((bitmap_in s).size / 4096 + 5 * m) old now) all
              (grew-within (λ _. let within = so_far.within in omega (arith, within)) so_far.grew);
        }
