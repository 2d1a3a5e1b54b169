-- What a call does that readies headers first, where it goes on, and where it breaks off.
use Rattle.std.proofs.Common.{◌≡◌, ◌≢◌, ℕ, zero, suc, ◌+◌, ◌≤◌, ◌==◌, ◌||◌, Bool, true, false, IsTrue, List, ◌++◌, Option, Some, None, refl}
use Rattle.std.proofs.Common.{inl, sym, ap, subst, ◌∙◌, arith}
use Rattle.std.proofs.lemmas.Bool.{or_parts}
use Rattle.std.proofs.lemmas.List.{append-nil}
use Rattle.f11_dev.specs.Disk.{Disk}
use Rattle.f11_dev.specs.Image.{Image}
use Rattle.f11_dev.proofs.WentLemmas.{went_more, went_weaker}
use Rattle.f11_home.specs.Home.{HomeFields}
use Rattle.f11_store.specs.Causes.{Cause, first_of}
use Rattle.f11_store.specs.Changes.{AfterSlots}
use Rattle.f11_store.specs.Cost.{slots_cost}
use Rattle.f11_store.specs.Headroom.{slots_first}
use Rattle.f11_store.specs.Lags.{after_slots, and_then, grow_work, no_work, with_headers_first, work_if, LagsBy, Work}
use Rattle.f11_store.specs.Moments.{AreRespectful}
use Rattle.f11_store.specs.SlotsFirst.{IsReady}
use Rattle.f11_store.specs.Store.{Store, index_file}
use Rattle.f11_store.specs.declared.refusals.Refusal.{Refusal}
use Rattle.f11_store.specs.declared.refusals.Refusal.TheVariants.{Damaged}
use Rattle.f11_store.proofs.ProgressLaws.{more_work_lags}
use Rattle.f11_store.proofs.SlotsFirst.{gained-is-ready, ready-lags}
use Rattle.f11_volume.specs.Volume.{volume_of, Volume}
use Rattle.f11_image_store.specs.StoreOf.{store_of}
use Rattle.f11_files.specs.Answers.{faults_of, is_fatal, Does, FailsOrWants, IsUnderWay, KeepsUnused, Meanwhile, WritesAtMost}
use Rattle.f11_files.specs.GrowingIndex.Headroom.{ready_work, ConfinesSlots, HasReadied, ReadiesHeaders, WritesAfterSlots}
use Rattle.f11_files.specs.Overall.{AllotsAfter}
use Rattle.f11_files.proofs.AnswerLemmas.{reads-within}
use Rattle.f11_writes.specs.Order.{WritesInOrder}
use Rattle.f11_writes.proofs.InOrderLemmas.{order-then}
use Rattle.f11_files.proofs.Confining.Confines.{confines-none, in-order-if}
use Rattle.f11_files.proofs.Extending.Cleared.{fatal-right}
use Rattle.f11_files.proofs.GrowingIndex.ZeroSlots.{unused-after}
use Rattle.f11_files.proofs.WriteLemmas.{as-wanting, breaks-off, writes-within}

-- slots that came first are there
pub has-got : {home : HomeFields} {headers n : ℕ} {old new : Disk} → ReadiesHeaders home headers n old new → HasReadied headers home old new
has-got readies honest = record { makes = readies.does.makes honest; allots = readies.does.allots honest }

-- while the slots that come first are added, the whole is under way
pub first-lags : (s t : Store) (headers : ℕ) (work : Work) → LagsBy (with_headers_first s headers no_work) t s
    → LagsBy (with_headers_first s headers work) t s
first-lags s t headers work = by_count (slots_first s headers)
  where
    by_count : (n : ℕ) → LagsBy (after_slots n s no_work) t s → LagsBy (after_slots n s work) t s
    by_count zero lags = more_work_lags t s no_work work work.parts refl (λ _ _. refl) (omega arith) (omega arith) lags
    by_count (suc n) lags =
        let first : Work = grow_work (index_file s).room (suc n) in
        more_work_lags t s (and_then first no_work) (and_then first work) work.parts
        (ap (λ ps. ps ++ work.parts) (sym (append-nil first.parts)))
        (λ m out. ap (λ (b : Bool). b || false) (or_parts (m == 1) (work.is_meant m) out).0) (omega arith) (omega arith) lags

-- what broke off, or wanted memory, while they were added
pub fails-first :
    {takes failed : Bool} (causes : List Cause) {m k : ℕ} (headers : ℕ) (work : Work) {home : HomeFields} (r : Refusal) {a c : Disk} → m ≤ k
    →
    FailsOrWants takes failed causes m (ready_work (store_of a.image home) headers) home r a c →
    FailsOrWants takes failed causes k (with_headers_first (store_of a.image home) headers work) home r a c
fails-first causes headers work {home} r {a} {c} fewer fails = record {
  right = fails.right;
  wanting = fails.wanting;
  writes = writes-within fewer record {
    transfers = fails.writes.transfers;
    went =
        went_weaker (Meanwhile (work_if (first_of causes) (ready_work s headers)) home a)
        (Meanwhile (work_if (first_of causes) (with_headers_first s headers work)) home a)
        (λ image is honest. by_cause (first_of causes) image (is honest)) fails.writes.went;
    few = fails.writes.few;
  };
  unchanged = λ clean. reads-within fewer (fails.unchanged clean);
}
  where
    s : Store
    s = store_of a.image home

    by_cause : (o : Option Refusal) (image : Image) → IsUnderWay (work_if o (ready_work s headers)) home a.image image
        → IsUnderWay (work_if o (with_headers_first s headers work)) home a.image image
    by_cause None image is = record { sound = is.sound; lags = first-lags s (store_of image home) headers work is.lags }
    by_cause (Some cause) image is = is

module _ {home : HomeFields} {headers n : ℕ} {a b : Disk} (readies : ReadiesHeaders home headers n a b) where
  abbrev s : Store
  s = store_of a.image home

  abbrev ready : Store
  ready = store_of b.image home

  pub honest-ready : b.honest ≡ a.honest
  honest-ready = readies.does.writes.went.honest

  -- the store is ready
  pub is-ready : IsTrue a.honest → IsReady s (slots_first s headers) ready
  is-ready honest = gained-is-ready s ready headers (readies.does.makes honest)

  moment-first : (work : Work) (image : Image) → Meanwhile (ready_work s headers) home a image
      → Meanwhile (with_headers_first s headers work) home a image
  moment-first work image is honest =
      record { sound = (is honest).sound; lags = first-lags s (store_of image home) headers work (is honest).lags }

  module _ (work rest : Work) (same : IsTrue a.honest → rest ≡ work) (respects : AreRespectful work.parts) where
    moment-then : (image : Image) → Meanwhile rest home b image → Meanwhile (with_headers_first s headers work) home a image
    moment-then image is honest =
        let here = is (honest-ready ∙ honest) in
        record {
          sound = here.sound;
          lags = ready-lags s ready (store_of image home) headers work (readies.does.makes honest) respects
              (subst (λ (w : Work). LagsBy w (store_of image home) ready) (same honest) here.lags);
        }

    -- what is written then is written after them
    pub writes-ready :
        {k faults : ℕ} (few : ℕ) {Q : Image → Type 0} {c : Disk}
        → ((image : Image) → Q image → Meanwhile (with_headers_first s headers work) home a image) →
        (IsTrue a.honest → k ≤ few) → WritesAtMost Q k b c faults
        → WritesAtMost (Meanwhile (with_headers_first s headers work) home a) (slots_cost s headers + few) a c faults
    writes-ready few {Q} moment within writes = record {
      transfers = readies.does.writes.transfers + writes.transfers;
      went = went_more (Meanwhile (with_headers_first s headers work) home a)
          (went_weaker (Meanwhile (ready_work s headers) home a) (Meanwhile (with_headers_first s headers work) home a) (moment-first work)
          readies.does.writes.went)
          (went_weaker Q (Meanwhile (with_headers_first s headers work) home a) moment writes.went);
      few = λ honest.
          let one = readies.does.writes.few honest in
          let two = writes.few (honest-ready ∙ honest) in
          let fewer = within honest in
          omega (arith, one, two, fewer);
    }

    -- what is done once they are there is done after them
    pub does-ready :
        (causes : List Cause) {others : List Cause} {k : ℕ} (few : ℕ) {Rel : Store → Store → Type 0} {Allots : Volume → Volume → Type 0}
        {c : Disk} →
        (IsTrue a.honest → first_of causes ≡ None) → (IsTrue a.honest → k ≤ few)
        → Does others rest k (Rel ready) (KeepsUnused Allots) home b c →
        Does causes (with_headers_first s headers work) (slots_cost s headers + few) (λ t. AfterSlots s headers (λ (x : Store). Rel x t))
        (KeepsUnused (AllotsAfter (slots_first s headers) Allots)) home a c
    does-ready causes few {Allots = Allots} {c = c} none within does = record {
      no_cause = none;
      makes = λ honest. record {
        ready = ready;
        gains = readies.does.makes honest;
        enough = readies.enough honest;
        makes = does.makes (honest-ready ∙ honest);
      };
      allots = λ honest.
          unused-after (slots_first s headers) Allots (volume_of a.image home) (volume_of b.image home) (volume_of c.image home)
          (readies.does.allots honest) (does.allots (honest-ready ∙ honest));
      writes = writes-ready few moment-then within does.writes;
    }

    moment-refused :
        (others : List Cause) → (IsTrue b.honest → first_of others ≡ None) → (image : Image) →
        Meanwhile (work_if (first_of others) rest) home b image → Meanwhile (with_headers_first s headers work) home a image
    moment-refused others no_other image is =
        moment-then image (λ honest. subst (λ (o : Option Refusal). IsUnderWay (work_if o rest) home b.image image) (no_other honest)
        (is honest))

    -- what broke off then broke off after them
    pub fails-ready :
        (causes others : List Cause) {takes : Bool} {k : ℕ} (few : ℕ) (r : Refusal) {c : Disk} → (IsTrue a.honest → first_of causes ≡ None)
        →
        (IsTrue b.honest → first_of others ≡ None) → (IsTrue a.honest → k ≤ few) → is_fatal r ≡ true → (IsTrue a.honest → r ≢ Damaged) →
        WritesAtMost (Meanwhile (work_if (first_of others) rest) home b) k b c (faults_of r) →
        FailsOrWants takes false causes (slots_cost s headers + few) (with_headers_first s headers work) home r a c
    fails-ready causes others few r none no_other within fatal undamaged writes =
        as-wanting (λ is. let no : false ≡ true = sym (ap (λ (k : ℕ). (k == 19) || (k == 20)) is) ∙ fatal in absurd cc)
        (breaks-off none fatal (fatal-right causes r a.honest fatal undamaged)
        (writes-ready few (moment-refused others no_other) within writes))

-- where nothing was done nothing was changed
pub unchanged-after : (headers : ℕ) (Rest : Disk → Disk → Type 0) (home : HomeFields) (disk : Disk) → Rest disk disk
    → WritesAfterSlots headers Rest home disk disk
unchanged-after headers Rest home disk rest =
    record {
      ready = disk;
      slots = λ honest. by_count (slots_first (store_of disk.image home) headers);
      readied = inl refl;
      rest = rest;
    }
  where
    by_count : (n : ℕ) → ConfinesSlots n home disk disk
    by_count zero = λ _. confines-none _ _ _ _ disk
    by_count (suc n) = λ _. confines-none _ _ _ _ disk

-- slots that came first, and then the rest, were written in order
pub after-slots-order : {headers : ℕ} {Rest : Disk → Disk → Type 0} {home : HomeFields} {old new : Disk}
    → ((ready : Disk) → Rest ready new → WritesInOrder ready new) → WritesAfterSlots headers Rest home old new → WritesInOrder old new
after-slots-order {headers} {Rest} {home} {old} {new} order after =
    order-then old after.ready new (record {
      ordered = λ honest. (by_count (slots_first (store_of old.image home) headers) (after.slots honest)).ordered honest;
    }) (order after.ready after.rest)
  where
    by_count : (n : ℕ) → ConfinesSlots n home old after.ready → WritesInOrder old after.ready
    by_count zero slots = in-order-if slots
    by_count (suc n) slots = in-order-if slots
