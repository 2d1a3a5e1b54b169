-- Headers that are to be taken: they are free, or the index file gets slots first.
use Rattle.std.proofs.Common.{◌≡◌, ◌≤◌, ◌<◌, ◌+◌, ◌-◌, ◌==◌, ◌&&◌, ℕ, zero, suc, Bool, true, false, nat_lt, IsTrue, List, [], ◌∷◌, Option}
use Rattle.std.proofs.Common.{Some, None, length, refl, sym, ap, subst, ◌∙◌, arith}
use Rattle.std.specs.Prelude.{not, if◌then◌else◌}
use Rattle.std.proofs.lemmas.Bool.Decides.{nat_tests}
use Rattle.f11_dev.specs.Disk.{Disk}
use Rattle.f11_dev.specs.Image.{Image}
use Rattle.f11_dev.proofs.LookedLemmas.{looked_none}
use Rattle.f11_dev.proofs.WentLemmas.{went_looked, went_weaker}
use Rattle.f11_home.specs.Home.{HomeFields}
use Rattle.f11_index.specs.IndexFile.{Index, index_of, slots, free_slots_in}
use Rattle.f11_index.specs.Table.{table_in}
use Rattle.f11_index.proofs.BitLemmas.{is_in_use-past}
use Rattle.f11_image_store.specs.Allocation.{GainsSlots}
use Rattle.f11_image_store.specs.StoreOf.{store_of}
use Rattle.f11_image_store.proofs.NewFileLemmas.{free-stored}
use Rattle.f11_store.specs.Causes.{◌⇐◌, first_of, header_causes}
use Rattle.f11_store.specs.Changes.{GetsSlots, GrowsIndex}
use Rattle.f11_store.specs.Cost.{growth_cost, slots_cost}
use Rattle.f11_store.specs.Headroom.{lacking, lacks_headers, may_get_slots, slots_first}
use Rattle.f11_store.specs.Lags.{LagsBy, grow_work, no_work, with_headers_first, work_if}
use Rattle.f11_store.specs.SlotsFirst.{HasNoOtherSlots}
use Rattle.f11_store.specs.Step.{gets_slots}
use Rattle.f11_store.specs.Store.{Store, index_file}
use Rattle.f11_store.specs.declared.refusals.Refusal.{Refusal}
use Rattle.f11_store.specs.declared.refusals.Refusal.TheVariants.{DeviceFull, NoHeader}
use Rattle.f11_store.proofs.SlotsFirst.{enough-are-free, gaining-lags}
use Rattle.f11_volume.specs.Sound.{HasSoundVolume}
use Rattle.f11_volume.specs.Volume.{Volume, volume_of}
use Rattle.f11_files.specs.Answers.{Meanwhile}
use Rattle.f11_files.specs.GrowingIndex.First.{if_fit, slots_causes, FailsToGetSlots, GetsSlotsFirst}
use Rattle.f11_files.specs.GrowingIndex.Headroom.{AllotsSlots, ConfinesSlots, FailsToReady, ReadiesHeaders, ready_work}
use Rattle.f11_files.specs.Structure.{home_of, index_in, store_on, IsStructureFor, StaysFor}
use Rattle.f11_files.specs.declared.structure.Structure.{Structure}
use Rattle.f11_files.proofs.AnswerLemmas.{right-cause}
use Rattle.f11_files.proofs.GrowingIndex.First.{fit-of}
use Rattle.f11_files.proofs.Opening.Space.{slots-of}
use Rattle.f11_files.proofs.WriteLemmas.{as-wanting, fails-unread}

some-not : (k : ℕ) → 0 < k → (k == 0) ≡ false
some-not k some = grind (arith, nat_tests, some)

-- where headers lack, their slots come first if they fit
first-if : (k : ℕ) (fit : Bool) → 0 < k → (if not (k == 0) && not fit then 0 else k) ≡ if_fit fit k
first-if k true some = ap (λ (b : Bool). if not b && not true then 0 else k) (some-not k some)
first-if k false some = ap (λ (b : Bool). if not b && not false then 0 else k) (some-not k some)

lacks-if : (k : ℕ) (fit : Bool) → 0 < k → (not (k == 0) && not fit) ≡ not fit
lacks-if k fit some = ap (λ (b : Bool). not b && not fit) (some-not k some)

first-some : (s : Store) (headers : ℕ) → 0 < lacking s headers
    → slots_first s headers ≡ if_fit (may_get_slots s (lacking s headers)) (lacking s headers)
unfolding slots_first lacks_headers
first-some s headers some = first-if (lacking s headers) (may_get_slots s (lacking s headers)) some

lacks-some : (s : Store) (headers : ℕ) → 0 < lacking s headers → lacks_headers s headers ≡ not (may_get_slots s (lacking s headers))
unfolding lacks_headers
lacks-some s headers some = lacks-if (lacking s headers) (may_get_slots s (lacking s headers)) some

-- where none lacks, none come first
first-none : (s : Store) (headers : ℕ) → lacking s headers ≡ 0 → slots_first s headers ≡ 0
unfolding slots_first lacks_headers
first-none s headers none = ap (λ (k : ℕ). if not (k == 0) && not (may_get_slots s k) then 0 else k) none

lacks-none : (s : Store) (headers : ℕ) → lacking s headers ≡ 0 → lacks_headers s headers ≡ false
unfolding lacks_headers
lacks-none s headers none = ap (λ (k : ℕ). not (k == 0) && not (may_get_slots s k)) none

-- slots that the index file has got are those that come first
as-gets : (k : ℕ) (s t : Store) → 0 < k → GrowsIndex s k t → GetsSlots k s t
as-gets zero s t some grows = absurd (omega (arith, some))
as-gets (suc k) s t some grows = grows

as-allots : (k : ℕ) (old new : Volume) → 0 < k → GainsSlots k old new → AllotsSlots k old new
as-allots zero old new some gains = absurd (omega (arith, some))
as-allots (suc k) old new some gains = gains

as-lags : (k : ℕ) (s t : Store) (headers : ℕ) → 0 < k → slots_first s headers ≡ k → LagsBy (grow_work (index_file s).room k) t s
    → LagsBy (with_headers_first s headers no_work) t s
as-lags zero s t headers some is lags = absurd (omega (arith, some))
as-lags (suc k) s t headers some is lags = gaining-lags s t headers k no_work is lags

takes-memory : (k : ℕ) → 0 < k → gets_slots k ≡ true
takes-memory k some = ap not (some-not k some)

slots-stored : (image : Image) (home : HomeFields) (n : ℕ) → (store_of image home).slots < n → (store_of image home).in_use n ≡ false
unfolding store_of table_in
slots-stored image home n past = is_in_use-past (index_of image home) n past

module _ (s : Structure) (headers n lack : ℕ) (old : Disk) (for : IsStructureFor s old)
    (lack_is : lack ≡ headers - length (free_slots_in (index_in s))) where
  abbrev st : Store
  st = store_on s old

  abbrev home : HomeFields
  home = home_of s

  lack-now : IsTrue old.honest → lack ≡ lacking st headers
  lack-now honest =
      lack_is ∙ ap (λ (x : Index). headers - length (free_slots_in x)) (for.keeps honest).index_is
      ∙ ap (λ (l : List ℕ). headers - length l) (sym (free-stored old.image home))

  no-other-slots : IsTrue old.honest → HasNoOtherSlots st
  no-other-slots honest =
      let some = s.index.valid.first_slots in
      let here = slots-of old.image home ∙ ap slots (sym (for.keeps honest).index_is) in
      record { own = omega (arith, some, here); none_behind = slots-stored old.image home }

  module _ (some : 0 < lack) where
    more : IsTrue old.honest → 0 < lacking st headers
    more honest = let now = lack-now honest in omega (arith, some, now)

    first-is : IsTrue old.honest → slots_first st headers ≡ if_fit (may_get_slots st lack) lack
    first-is honest = first-some st headers (more honest) ∙ ap (λ (k : ℕ). if_fit (may_get_slots st k) k) (sym (lack-now honest))

    lacks-is : IsTrue old.honest → lacks_headers st headers ≡ not (may_get_slots st lack)
    lacks-is honest = lacks-some st headers (more honest) ∙ ap (λ (k : ℕ). not (may_get_slots st k)) (sym (lack-now honest))

    causes-are : IsTrue old.honest → first_of (header_causes st headers n) ≡ first_of (slots_causes st lack n)
    causes-are honest =
        ap (λ (k : ℕ). first_of ((DeviceFull ⇐ nat_lt st.free (n + k)) ∷ (NoHeader ⇐ lacks_headers st headers) ∷ [])) (first-is honest)
        ∙ ap (λ (b : Bool). first_of ((DeviceFull ⇐ nat_lt st.free (n + if_fit (may_get_slots st lack) lack)) ∷ (NoHeader ⇐ b) ∷ []))
        (lacks-is honest)

    -- where there is no cause they are all to be had
    all-first : IsTrue old.honest → first_of (slots_causes st lack n) ≡ None → slots_first st headers ≡ lack
    all-first honest none = first-is honest ∙ ap (λ (b : Bool). if_fit b lack) (fit-of (may_get_slots st lack) st.free lack n none).fits

    cost-is : IsTrue old.honest → slots_cost st headers ≡ growth_cost st (index_file st) lack
    cost-is honest =
        ap (λ (k : ℕ). if k == 0 then 0 else growth_cost st (index_file st) k) (sym (lack-now honest))
        ∙ ap (λ (b : Bool). if b then 0 else growth_cost st (index_file st) lack) (some-not lack some)

    moment : (image : Image) → Meanwhile (work_if (first_of (slots_causes st lack n)) (grow_work (index_file st).room lack)) home old image
        → Meanwhile (work_if (first_of (header_causes st headers n)) (ready_work st headers)) home old image
    moment image is honest =
        let here = is honest in
        record {
          sound = here.sound;
          lags = subst (λ (x : Option Refusal). LagsBy (work_if x (ready_work st headers)) (store_of image home) st)
              (sym (causes-are honest)) (by_cause (first_of (slots_causes st lack n)) refl here.lags);
        }
      where
        by_cause : (x : Option Refusal) → first_of (slots_causes st lack n) ≡ x
            → LagsBy (work_if x (grow_work (index_file st).room lack)) (store_of image home) st
            → LagsBy (work_if x (ready_work st headers)) (store_of image home) st
        by_cause None none lags = as-lags lack st (store_of image home) headers some (all-first honest none) lags
        by_cause (Some r) found lags = lags

    pub fails-ready : (r : Refusal) (new : Disk) → FailsToGetSlots home lack n r old new → FailsToReady false home headers n r old new
    fails-ready r new fails = record {
      right = λ other. let right = fails.right other in
          record {
            volume = right.volume;
            among = right.among;
            cause = λ honest is. causes-are honest ∙ right.cause honest is;
            undamaged = right.undamaged;
          };
      wanting = λ is. let wants = fails.wanting is in (
        wants.0,
        λ honest. let none = (wants.1 honest).0 in
            (causes-are honest ∙ none, takes-memory (slots_first st headers) (let all = all-first honest none in omega (arith, all, some))),
      );
      writes = record {
        transfers = fails.writes.transfers;
        went = went_weaker (Meanwhile (work_if (first_of (slots_causes st lack n)) (grow_work (index_file st).room lack)) home old)
            (Meanwhile (work_if (first_of (header_causes st headers n)) (ready_work st headers)) home old) moment fails.writes.went;
        few = λ honest. let few = fails.writes.few honest in let cost = cost-is honest in omega (arith, few, cost);
      };
      unchanged = λ clean. let reads = fails.unchanged clean in
          record {
            reads = reads.reads;
            looked = reads.looked;
            few = λ honest. let few = reads.few honest in let cost = cost-is honest in
                omega (arith, few, cost);
          };
    }

    pub readies-some : (t : Structure) (new : Disk) → GetsSlotsFirst home lack n old new → StaysFor false s t new
        → ReadiesHeaders home headers n old new
    readies-some t new got stays =
        let makes : IsTrue old.honest → GetsSlots (slots_first st headers) st (store_of new.image home) =
        λ honest. subst (λ (k : ℕ). GetsSlots k st (store_of new.image home)) (sym (all-first honest (got.no_cause honest)))
        (as-gets lack st (store_of new.image home) some (got.makes honest)) in
        record {
          does = record {
            no_cause = λ honest. causes-are honest ∙ got.no_cause honest;
            makes = makes;
            allots = λ honest. subst (λ (k : ℕ). AllotsSlots k (volume_of old.image home) (volume_of new.image home))
                (sym (all-first honest (got.no_cause honest))) (as-allots lack _ _ some (got.allots honest));
            writes = record {
              transfers = got.writes.transfers;
              went = went_weaker (Meanwhile (grow_work (index_file st).room lack) home old) (Meanwhile (ready_work st headers) home old)
                  (λ image is honest. let here = is honest in
                  record {
                    sound = here.sound;
                    lags = as-lags lack st (store_of image home) headers some
                        (all-first honest (got.no_cause honest)) here.lags;
                  }) got.writes.went;
              few = λ honest. let few = got.writes.few honest in let cost = cost-is honest in omega (arith, few, cost);
            };
          };
          enough = λ honest.
              enough-are-free st (store_of new.image home) headers (no-other-slots honest)
              (lacks-is honest ∙ ap not (fit-of (may_get_slots st lack) st.free lack n (got.no_cause honest)).fits) (makes honest);
          sound = λ honest. subst (HasSoundVolume new.image) stays.home (stays.sound (got.writes.went.honest ∙ honest));
        }

    pub confined-some : (new : Disk) → (IsTrue old.honest → ConfinesSlots (if_fit (may_get_slots st lack) lack) home old new)
        → IsTrue old.honest → ConfinesSlots (slots_first st headers) home old new
    confined-some new one honest = subst (λ (k : ℕ). ConfinesSlots k home old new) (sym (first-is honest)) (one honest)

  module _ (free : ℕ) (enough : lack ≡ 0) (free_is : IsTrue old.honest → free ≡ st.free) where
    none-first : IsTrue old.honest → slots_first st headers ≡ 0
    none-first honest = first-none st headers (sym (lack-now honest) ∙ enough)

    pub lacks-blocks : free < n → FailsToReady false home headers n DeviceFull old old
    lacks-blocks few = as-wanting (λ is. omega (arith, is)) (fails-unread {m = 0} (omega arith) record {
      right = right-cause _ _ _ (λ is. omega (arith, is)) (λ is. omega (arith, is)) refl (λ honest.
          let here = free_is honest in
          let full : nat_lt st.free (n + slots_first st headers) ≡ true = grind (arith, nat_tests, few, here) in
          ap (λ (b : Bool). first_of ((DeviceFull ⇐ b) ∷ (NoHeader ⇐ lacks_headers st headers) ∷ [])) full);
      reads = record { reads = 0; looked = looked_none old; few = λ _. omega arith };
    })

    pub readies-none : n ≤ free → ReadiesHeaders home headers n old old
    readies-none blocks = record {
      does = record {
        no_cause = λ honest.
            let here = free_is honest in
            let none = none-first honest in
            let full : nat_lt st.free (n + slots_first st headers) ≡ false = grind (arith, nat_tests, blocks, here, none) in
            rw (full, lacks-none st headers (sym (lack-now honest) ∙ enough)) refl;
        makes = λ honest. subst (λ (k : ℕ). GetsSlots k st st) (sym (none-first honest)) refl;
        allots = λ honest. subst (λ (k : ℕ). AllotsSlots k (volume_of old.image home) (volume_of old.image home)) (sym (none-first honest))
            refl;
        writes = record {
          transfers = 0;
          went = went_looked (Meanwhile (ready_work st headers) home old) (looked_none old);
          few = λ _. omega arith;
        };
      };
      enough = λ honest. let now = lack-now honest in omega (arith, now, enough);
      sound = for.sound;
    }
