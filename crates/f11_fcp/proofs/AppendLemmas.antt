-- A record that is entered in a directory that was looked through: in place of an empty one, or at the end.
use Rattle.std.proofs.Common.{◌≡◌, ◌≢◌, ◌⊎◌, inl, inr, ℕ, ◌+◌, ◌-◌, ◌*◌, ◌/◌, ◌%◌, ◌<◌, ◌≤◌, ◌==◌, ◌&&◌, Bool, true, false, IsTrue, List}
use Rattle.std.proofs.Common.{[], ◌∷◌, Option, Some, None, refl, sym, ◌∙◌, ap, subst, arith, if◌then◌else◌, is_none, nat_le, map}
use Rattle.std.specs.List.{slice_get}
use Rattle.std.proofs.lemmas.Bool.{ne_eqb}
use Rattle.std.proofs.lemmas.Bool.Decides.{nat_tests}
use Rattle.f11_dev.specs.Disk.{Disk}
use Rattle.f11_dev.specs.Image.{Image}
use Rattle.f11_home.specs.Home.{HomeFields}
use Rattle.f11_store.specs.Causes as causes
use Rattle.f11_store.specs.Causes.{◌⇐◌, first_of, is_missing}
use Rattle.f11_store.specs.Changes.{Enters}
use Rattle.f11_store.specs.Cost.{header_count, lengthen_cost}
use Rattle.f11_store.specs.Directory.{entry_count, index_of_empty, needs_block}
use Rattle.f11_store.specs.File.{File, length_of, need, zero_block}
use Rattle.f11_store.specs.Headroom.{slots_first}
use Rattle.f11_store.specs.Lags.{lengthen_work, work_if}
use Rattle.f11_store.specs.Step.{gets_slots}
use Rattle.f11_store.specs.Store.{Store, file_named}
use Rattle.f11_store.specs.declared.files.FileId.{FileId}
use Rattle.f11_store.specs.declared.refusals.Refusal.{Refusal}
use Rattle.f11_store.specs.declared.refusals.Refusal.TheVariants.{NoSuchFile, VolumeFailed, TooManySegments, DeviceFull, NoHeader, NoMemory}
use Rattle.f11_entries.specs.Costs.{append_cost, entry_cost}
use Rattle.f11_entries.specs.Entering.{EnteringFrom}
use Rattle.f11_entries.specs.Looks.{IsInHand, place_of}
use Rattle.f11_entries.specs.Seen.{IsNewBlock}
use Rattle.f11_entries.specs.Writing.{EnteringBy}
use Rattle.f11_entries.specs.declared.spot.Spot.{Spot}
use Rattle.f11_entries.proofs.CostLemmas.{append_fits, grown_fits}
use Rattle.f11_entries.proofs.EnteringLemmas.{entering_at_end, entering_in_new_block}
use Rattle.f11_entries.proofs.SeenLemmas.{new_block_is_zeros}
use Rattle.f11_entries.proofs.WritingLemmas.{entering_by_writes, entering_in_place_by_write}
use Rattle.f11_files.specs.Answers.{Breaks, FailsToRead, FailsToWrite, IsRight, IsUnderWay, Meanwhile, ReadsAtMost, WritesAtMost, faults_of}
use Rattle.f11_files.specs.Answers.{is_among, is_cause, is_fatal}
use Rattle.f11_files.specs.Extending.Runs.{ExtendsFile, FailsToExtend}
use Rattle.f11_files.specs.Overall.{ExtendsOverall}
use Rattle.f11_files.proofs.Overall.{extends-is}
use Rattle.f11_files.specs.Operations.{extend_causes}
use Rattle.f11_files.specs.image_store.StoreOf.{store_of}
use Rattle.f11_dev.proofs.WentLemmas.{went_looked, went_weaker}
use Rattle.f11_fcp.specs.Entries.{HasBlocks, put_work, ReplacesEntry, BreaksReplacing, IsDirectoryTail, IsAppending, putting, moving}
use Rattle.f11_fcp.specs.Entries.{Appending, Appends, cause_if, entry_causes, entry_wants, entry_work, IsDirectoryEnd, IsFull, HasEmpty}
use Rattle.f11_fcp.specs.Entries.{PutsEntry, FailsToPut}
use Rattle.f11_fcp.specs.Handles.{of_known}
use Rattle.f11_fcp.specs.declared.search.Search.{Search}
use Rattle.f11_fcp.specs.declared.tail.Tail.{Tail}
use Rattle.f11_fcp.proofs.AccessedLemmas.{first-among}
use Rattle.f11_fcp.proofs.EntryLemmas.{there-first, writes-then, writes-weaker}
use Rattle.f11_fcp.proofs.HandleLemmas.{cause-not-fatal, clean-cause, memory-cases, wants-none, wants-still, within-when}
use Rattle.f11_fcp.proofs.KnownLemmas.{known-fatal, clean-faults, right-fatal, right-damage}

-- where no cause is that of a refusal it fails the volume
pub fatal-alone : {honest : Bool} (e : Refusal) → IsRight false honest [] e → is_fatal e ≡ true
fatal-alone e right = by_fatal (is_fatal e) refl
  where
    by_fatal : (b : Bool) → is_fatal e ≡ b → b ≡ true
    by_fatal true fatal = refl
    by_fatal false clean =
        let other : e ≢ VolumeFailed = λ v. absurd (let no : false ≡ true = right.volume v in cc) in
        let no : false ≡ true = right.among (clean-cause e clean other).0 in absurd (cc)

-- a directory is another file than the index file
pub not-index : (d : FileId) → 4 ≤ d.number → (d.number == 1) ≡ false
not-index d own = ne_eqb d.number 1 (λ is. absurd (omega (arith, own, is)))

-- with the home block that the volume had
pub appends-at-home : {h home : HomeFields} {d : FileId} {tail : Tail} {r : List ℕ} {old new : Disk} → h ≡ home → Appends h d tail r old new
    → Appends home d tail r old new
appends-at-home {d = d} {tail = tail} {r = r} {old = old} {new = new} same appends =
    subst (λ (x : HomeFields). Appends x d tail r old new) same appends

pub breaks-at-home : {h home : HomeFields} (d : FileId) (tail : Tail) (r : List ℕ) {e : Refusal} (old : Disk) {new : Disk} → h ≡ home
    → Breaks (Appending h d tail r old) (append_cost (file_named (store_of old.image h) d)) e old new
    → Breaks (Appending home d tail r old) (append_cost (file_named (store_of old.image home) d)) e old new
breaks-at-home d tail r {e = e} old {new = new} same breaks =
    subst (λ (x : HomeFields). Breaks (Appending x d tail r old) (append_cost (file_named (store_of old.image x) d)) e old new) same breaks

-- the block in which the next record goes is there
pub end-there : (found : Search) (s : Store) (d : FileId) → found.count < 32 * found.length → IsDirectoryEnd found s d
    → HasBlocks s d (found.count / 32 + 1)
end-there found s d room end = record {
  there = end.there;
  more = let long = end.length_is in omega (arith, room, long);
}

-- the first empty record is in hand
pub place-of : (found : Search) (spot : Spot) (s : Store) (d : FileId) (empty : Option Spot) → empty ≡ Some spot → HasEmpty empty found s d
    → (is_missing s d ≡ false) × IsInHand (file_named s d) spot × (index_of_empty (file_named s d) ≡ Some (place_of spot))
place-of found spot s d empty is has =
    let at = subst (λ (o : Option Spot). HasEmpty o found s d) is has in
    (at.end.there, at.in_hand, at.first)

-- none is, and one block more is needed where the records fill those that there are
pub full-of : (found : Search) (s : Store) (d : FileId) (needs : Bool) (empty : Option Spot) → empty ≡ None → HasEmpty empty found s d
    → nat_le (512 * length_of (file_named s d)) (16 * entry_count (file_named s d)) ≡ needs → IsFull needs found s d
full-of found s d needs empty is has full =
    let at = subst (λ (o : Option Spot). HasEmpty o found s d) is has in
    record {
      end = at.end;
      none = at.first;
      needs_is = ap (λ (o : Option ℕ). is_none o && nat_le (512 * length_of (file_named s d)) (16 * entry_count (file_named s d)))
          at.first ∙ full;
    }

-- by what is kept of the directory
pub room-left : (found : Search) (s : Store) (d : FileId) → IsDirectoryEnd found s d → found.count < 32 * found.length
    → nat_le (512 * length_of (file_named s d)) (16 * entry_count (file_named s d)) ≡ false
room-left found s d end room = let counted = end.count_is in let long = end.length_is in grind (arith, nat_tests)

pub none-left : (found : Search) (s : Store) (d : FileId) → IsDirectoryEnd found s d → 32 * found.length ≤ found.count
    → nat_le (512 * length_of (file_named s d)) (16 * entry_count (file_named s d)) ≡ true
none-left found s d end full = let counted = end.count_is in let long = end.length_is in grind (arith, nat_tests)

module _ (home : HomeFields) (d : FileId) (r : List ℕ) (old : Disk) where
  abbrev s : Store
  s = store_of old.image home

  abbrev f : File
  f = file_named s d

  -- where no block more is needed nothing stands against the record
  none-needed : needs_block f ≡ false → first_of (entry_causes s d) ≡ None
  none-needed needs = ap (λ (b : Bool). first_of (map (cause_if b) (causes.extend_causes s f 1))) needs

  needed : needs_block f ≡ true → first_of (entry_causes s d) ≡ first_of (causes.extend_causes s f 1)
  needed needs = ap (λ (b : Bool). first_of (map (cause_if b) (causes.extend_causes s f 1))) needs

  -- a part that fails the volume is a failure of the whole
  pub breaks-whole : {Q : Image → Type 0} {n : ℕ} {e : Refusal} {mid new : Disk} → (IsTrue old.honest → first_of (entry_causes s d) ≡ None)
      → (IsTrue old.honest → IsTrue mid.honest)
      → Breaks Q n e mid new → WritesAtMost (Meanwhile (entry_work s d r) home old) (entry_cost s f) old new (faults_of e)
      → FailsToPut home d r e old new
  breaks-whole {e = e} none honest breaks writes = wants-none refl (record {
    right = record {
      volume = λ is. absurd (let fatal : is_fatal VolumeFailed ≡ true = subst (λ (x : Refusal). is_fatal x ≡ true) is breaks.fatal in cc);
      among = λ cause. absurd (let no : true ≡ false = sym breaks.fatal ∙ cause-not-fatal e cause in cc);
      cause = λ _ cause. absurd (let no : true ≡ false = sym breaks.fatal ∙ cause-not-fatal e cause in cc);
      undamaged = λ sure. breaks.undamaged (honest sure);
    };
    writes = record {
      transfers = writes.transfers;
      went =
          went_weaker (Meanwhile (entry_work s d r) home old)
          (Meanwhile (work_if (first_of (entry_causes s d)) (entry_work s d r)) home old)
          (λ image stands sure. subst (λ (o : Option Refusal). IsUnderWay (work_if o (entry_work s d r)) home old.image image)
          (sym (none sure)) (stands sure)) writes.went;
      few = writes.few;
    };
    unchanged = λ clean. absurd (let no : true ≡ false = sym breaks.fatal ∙ clean in cc);
  })

  -- in place of an empty record
  module _ (new : Disk) (spot : Spot) (below : spot.place < 32) (known : IsTrue old.honest → (is_missing s d ≡ false) × IsInHand f spot
      × (index_of_empty f ≡ Some (place_of spot))) where
    unneeded : IsTrue old.honest → first_of (entry_causes s d) ≡ None
    unneeded honest = none-needed (ap (λ (o : Option ℕ). is_none o && nat_le (512 * length_of f) (16 * entry_count f)) (known honest).2)

    under-place : (image : Image) → Meanwhile (put_work d spot r) home old image → Meanwhile (entry_work s d r) home old image
    under-place image stands honest =
        let by = entering_in_place_by_write s d spot.number spot.place spot.block r (known honest).0 below (known honest).1 (known honest).2
        in
        record { sound = (stands honest).sound; lags = by.putting (store_of image home) (stands honest).lags }

    fits-place : header_count f + 1 ≤ entry_cost s f
    fits-place = omega arith

    pub placed : ReplacesEntry home d spot r old new → PutsEntry home d r old new
    placed does = record {
      no_cause = unneeded;
      makes = λ honest.
          let by = entering_in_place_by_write s d spot.number spot.place spot.block r (known honest).0 below (known honest).1
          (known honest).2 in
          subst (λ (t : Store). Enters s d r t) (sym (does.makes honest)) by.enters;
      allots = λ _. tt;
      writes = writes-weaker under-place (λ _. fits-place) does.writes;
    }

    pub not-placed : {e : Refusal} → BreaksReplacing home d spot r e old new → FailsToPut home d r e old new
    not-placed breaks = breaks-whole unneeded (λ honest. honest) breaks (writes-weaker under-place (λ _. fits-place) breaks.writes)

  -- behind the last record, where that enters it
  module _ {Q : Image → Type 0} {m : ℕ} (mid new : Disk) (tail : Tail) (none : IsTrue old.honest → first_of (entry_causes s d) ≡ None)
      (by : IsTrue old.honest → EnteringBy (store_of mid.image home) s d tail.spot.number tail.spot.place tail.spot.block r
      (index_of_empty f))
      (weaker : (image : Image) → Q image → Meanwhile (entry_work s d r) home old image) (before : WritesAtMost Q m old mid 0)
      (fits : IsTrue old.honest → m + append_cost (file_named (store_of mid.image home) d) ≤ entry_cost s f)
    where
      sure : IsTrue old.honest → IsTrue mid.honest
      sure honest = before.went.honest ∙ honest

      under-tail : (image : Image) → Appending home d tail r mid image → Meanwhile (entry_work s d r) home old image
      under-tail image stands honest = by_case (stands (sure honest))
        where
          by_case : IsAppending home d tail r mid.image image → IsUnderWay (entry_work s d r) home old.image image
          by_case (putting sound lags) = record { sound = sound; lags = (by honest).putting (store_of image home) lags }
          by_case (moving sound lags) = record { sound = sound; lags = (by honest).moving (store_of image home) lags }

      pub appended : Appends home d tail r mid new → PutsEntry home d r old new
      appended does = record {
        no_cause = none;
        makes = λ honest. subst (λ (t : Store). Enters s d r t) (sym (does.makes (sure honest))) (by honest).enters;
        allots = λ _. tt;
        writes = writes-then weaker under-tail before does.writes fits;
      }

      pub not-appended : {e : Refusal}
          → Breaks (Appending home d tail r mid) (append_cost (file_named (store_of mid.image home) d)) e mid new
          → FailsToPut home d r e old new
      not-appended breaks = breaks-whole none sure breaks (writes-then weaker under-tail before breaks.writes fits)

  -- in a block that the directory has, which may have been read
  module _ (found : Search) (full : IsTrue old.honest → IsFull false found s d) where
    end-none : IsTrue old.honest → first_of (entry_causes s d) ≡ None
    end-none honest = none-needed (full honest).needs_is

    -- it wasn't read
    pub end-unread : {e : Refusal} {new : Disk} → FailsToRead false [] (header_count f + 1) e old new → FailsToPut home d r e old new
    end-unread {e = e} fails =
        breaks-whole {Q = λ image. Unit {0}} {mid = old} end-none (λ honest. honest)
        (record {
          fatal = fatal-alone e fails.right;
          undamaged = fails.right.undamaged;
          writes = record {
            transfers = fails.reads.reads;
            went = went_looked (λ image. Unit {0}) fails.reads.looked;
            few = fails.reads.few;
          };
        })
        (record {
          transfers = fails.reads.reads;
          went = went_looked (Meanwhile (entry_work s d r) home old) fails.reads.looked;
          few = λ honest. let few = fails.reads.few honest in omega (arith, few);
        })

    module _ (mid : Disk) (reads : ReadsAtMost (header_count f + 1) old mid 0) (tail : Tail) (block : List ℕ)
        (number-is : tail.spot.number ≡ found.count / 32) (place-is : tail.spot.place ≡ found.count % 32)
        (block-is : tail.spot.block ≡ block)
        (attr-is : tail.attr ≡ found.attr.attr) (length-is : tail.length ≡ found.length)
        (there : IsTrue old.honest → slice_get f.blocks (found.count / 32) ≡ Some block)
      where
        same : store_of mid.image home ≡ s
        same = ap (λ i. store_of i home) reads.looked.image

        pub end-tail : IsTrue mid.honest → IsDirectoryTail tail (store_of mid.image home) d
        end-tail sure =
            let honest : IsTrue old.honest = sym reads.looked.honest ∙ sure in
            let end = (full honest).end in
            subst (λ (x : Store). IsDirectoryTail tail x d) (sym same)
            (record {
              holds = record {
                there = end.there;
                in_hand = ap (slice_get f.blocks) number-is ∙ there honest
                    ∙ ap (λ (b : List ℕ). Some b) (sym block-is);
              };
              attr_is = attr-is ∙ end.attr_is;
              length_is = length-is ∙ end.length_is;
            })

        end-by : IsTrue old.honest
            → EnteringBy (store_of mid.image home) s d tail.spot.number tail.spot.place tail.spot.block r (index_of_empty f)
        end-by honest =
            let here = full honest in
            let at = end-tail (reads.looked.honest ∙ honest) in
            let counted = here.end.count_is in
            entering_by_writes (store_of mid.image home) s d tail.spot.number tail.spot.place tail.spot.block r at.holds.there
            (omega (arith, place-is)) at.holds.in_hand (omega (arith, counted, number-is, place-is))
            (subst (λ (x : Store). EnteringFrom x s d (entry_count f) r (index_of_empty f)) (sym same)
            (entering_at_end s d r here.none here.needs_is))

        end-before : WritesAtMost (Meanwhile (entry_work s d r) home old) (header_count f + 1) old mid 0
        end-before =
            record { transfers = reads.reads; went = went_looked (Meanwhile (entry_work s d r) home old) reads.looked; few = reads.few }

        end-fits : IsTrue old.honest → header_count f + 1 + append_cost (file_named (store_of mid.image home) d) ≤ entry_cost s f
        end-fits honest =
            subst (λ (x : Store). header_count f + 1 + append_cost (file_named x d) ≤ entry_cost s f) (sym same) (append_fits s f)

        pub end-appended : {new : Disk} → Appends home d tail r mid new → PutsEntry home d r old new
        end-appended {new = new} = appended mid new tail end-none end-by (λ image stands. stands) end-before end-fits

        pub end-not-appended : {e : Refusal} {new : Disk}
            → Breaks (Appending home d tail r mid) (append_cost (file_named (store_of mid.image home) d)) e mid new
            → FailsToPut home d r e old new
        end-not-appended {e = e} {new = new} =
            not-appended mid new tail end-none end-by (λ image stands. stands) end-before end-fits {e = e}

  -- in one block more
  module _ (mid : Disk) (found : Search) (other : (d.number == 1) ≡ false) (full : IsTrue old.honest → IsFull true found s d)
      (extends : ExtendsFile home d 1 old mid) where
    abbrev grown : Store
    grown = store_of mid.image home

    abbrev whole : ExtendsOverall home d 1 old mid
    whole = extends-is home d 1 old mid other extends

    new-none : IsTrue old.honest → first_of (entry_causes s d) ≡ None
    new-none honest = needed (full honest).needs_is ∙ sym (there-first (is_missing s d) _ (full honest).end.there) ∙ whole.no_cause honest

    new-block : IsTrue old.honest → (is_missing grown d ≡ false) × IsNewBlock f (file_named grown d)
    new-block honest = new_block_is_zeros grown s d other (full honest).end.there (full honest).needs_is (whole.makes honest)

    module _ (tail : Tail) (number-is : tail.spot.number ≡ found.length) (place-is : tail.spot.place ≡ 0)
        (block-is : tail.spot.block ≡ zero_block) (attr-is : tail.attr ≡ found.attr.attr)
        (length-is : tail.length ≡ found.length + 1)
      where
        in-hand : IsTrue old.honest → slice_get (file_named grown d).blocks tail.spot.number ≡ Some tail.spot.block
        in-hand honest =
            ap (slice_get (file_named grown d).blocks) (number-is ∙ (full honest).end.length_is) ∙ (new-block honest).1.block
            ∙ ap (λ (b : List ℕ). Some b) (sym block-is)

        pub new-tail : IsTrue mid.honest → IsDirectoryTail tail grown d
        new-tail sure =
            let honest : IsTrue old.honest = sym whole.writes.went.honest ∙ sure in
            let end = (full honest).end in
            let new = (new-block honest).1 in
            record {
              holds = record { there = (new-block honest).0; in_hand = in-hand honest };
              attr_is = attr-is ∙ end.attr_is ∙ sym new.attr;
              length_is = length-is ∙ ap (λ (n : ℕ). n + 1) end.length_is ∙ sym new.length_is;
            }

        new-by : IsTrue old.honest → EnteringBy grown s d tail.spot.number tail.spot.place tail.spot.block r (index_of_empty f)
        new-by honest =
            let counted = (new-block honest).1.count in
            let long = (full honest).end.length_is in
            entering_by_writes grown s d tail.spot.number tail.spot.place tail.spot.block r (new-block honest).0 (omega (arith, place-is))
            (in-hand honest) (omega (arith, counted, long, number-is, place-is))
            ((entering_in_new_block s d r other (full honest).none (full honest).needs_is).1 grown (whole.makes honest))

        new-weaker : (image : Image) → Meanwhile (lengthen_work s d 1) home old image → Meanwhile (entry_work s d r) home old image
        new-weaker image stands honest =
            record {
              sound = (stands honest).sound;
              lags = (entering_in_new_block s d r other (full honest).none (full honest).needs_is).0
                  (store_of image home) (stands honest).lags;
            }

        new-fits : IsTrue old.honest → lengthen_cost s f 1 - 1 + append_cost (file_named grown d) ≤ entry_cost s f
        new-fits honest = grown_fits s grown d other (full honest).end.there (full honest).needs_is (whole.makes honest)

        pub new-appended : {new : Disk} → Appends home d tail r mid new → PutsEntry home d r old new
        new-appended {new = new} = appended mid new tail new-none new-by new-weaker whole.writes new-fits

        pub new-not-appended : {e : Refusal} {new : Disk}
            → Breaks (Appending home d tail r mid) (append_cost (file_named grown d)) e mid new → FailsToPut home d r e old new
        new-not-appended {e = e} {new = new} = not-appended mid new tail new-none new-by new-weaker whole.writes new-fits {e = e}

  -- there is no room for one block more, memory was wanting, or the disk failed
  among-more : (m : Bool) (e : Refusal) → is_among ((NoSuchFile ⇐ m) ∷ causes.extend_causes s f 1) e ≡ true
      → (e ≡ NoSuchFile) ⊎ ((of_known e ≡ e) × (is_among (entry_causes s d) e ≡ true))
  among-more m NoSuchFile h = inl refl
  among-more m TooManySegments h = inr (refl, refl)
  among-more m DeviceFull h = inr (refl, refl)
  among-more m NoHeader h = inr (refl, refl)
  among-more m _ h = absurd (cc)

  module _ (failed : Bool) (new : Disk) (found : Search) (e : Refusal) (alive : failed ≡ false) (other : (d.number == 1) ≡ false)
      (full : IsTrue old.honest → IsFull true found s d)
      (fails : FailsToExtend failed home d 1 e old new)
    where
      causes-same : IsTrue old.honest → first_of (extend_causes s d 1) ≡ first_of (entry_causes s d)
      causes-same honest = there-first (is_missing s d) _ (full honest).end.there ∙ sym (needed (full honest).needs_is)

      wants-same : IsTrue old.honest → gets_slots (slots_first s (need f.room 1)) ≡ entry_wants s d
      wants-same honest = ap (λ (b : Bool). gets_slots (slots_first s (if b then need f.room 1 else 0))) (sym (full honest).needs_is)

      within : IsTrue old.honest → lengthen_cost s f 1 - 1 ≤ entry_cost s f
      within honest = rw (ap (λ (b : Bool). if b then need f.room 1 else 0) (full honest).needs_is) (omega arith)

      by-first : (image : Image) → IsTrue old.honest → (o : Option Refusal)
          → IsUnderWay (work_if o (lengthen_work s d 1)) home old.image image
          → IsUnderWay (work_if o (entry_work s d r)) home old.image image
      by-first image honest None stands =
          record {
            sound = stands.sound;
            lags = (entering_in_new_block s d r other (full honest).none (full honest).needs_is).0
                (store_of image home) stands.lags;
          }
      by-first image honest (Some x) stands = stands

      writes : WritesAtMost (Meanwhile (work_if (first_of (entry_causes s d)) (entry_work s d r)) home old) (entry_cost s f) old new
          (faults_of e)
      writes =
          writes-weaker
          (λ image stands honest. by-first image honest (first_of (entry_causes s d))
          (subst (λ (o : Option Refusal). IsUnderWay (work_if o (lengthen_work s d 1)) home old.image image) (causes-same honest)
          (stands honest)))
          within fails.writes

      abbrev Fails : Refusal → Type 0
      Fails x = FailsToWrite false (entry_causes s d) (entry_cost s f) (entry_work s d r) home x old new

      without : IsRight false old.honest (extend_causes s d 1) e → Fails (of_known e)
      without right = by_fatal (is_fatal e) refl
        where
          by_fatal : (b : Bool) → is_fatal e ≡ b → Fails (of_known e)
          by_fatal true fatal =
              subst Fails (sym (known-fatal e fatal))
              (record {
                right = right-fatal (entry_causes s d) e refl fatal right;
                writes = writes;
                unchanged = λ clean.
                    absurd (let no : true ≡ false = sym fatal ∙ clean in cc);
              })
          by_fatal false clean = by_case (among-more (is_missing s d) e (right.among cause))
            where
              failed-not : e ≢ VolumeFailed
              failed-not v = absurd (let no : false ≡ true = right.volume v in cc)

              cause : is_cause e ≡ true
              cause = (clean-cause e clean failed-not).0

              by_case : (e ≡ NoSuchFile) ⊎ ((of_known e ≡ e) × (is_among (entry_causes s d) e ≡ true)) → Fails (of_known e)
              by_case (inl is) =
                  subst (λ (x : Refusal). Fails (of_known x)) (sym is)
                  (record {
                    right = right-damage old.honest (entry_causes s d)
                        (λ honest. absurd (let no : false ≡ true = first-among (causes.extend_causes s f 1) NoSuchFile
                        (sym (there-first (is_missing s d) _ (full honest).end.there) ∙ right.cause honest cause
                        ∙ ap (λ (x : Refusal). Some x) is) in cc));
                    writes = subst (λ (k : ℕ). WritesAtMost (Meanwhile (work_if (first_of (entry_causes s d)) (entry_work s d r)) home old)
                        (entry_cost s f) old new k) (clean-faults e clean) writes;
                    unchanged = λ no. absurd (cc);
                  })
              by_case (inr own) =
                  subst Fails (sym own.0)
                  (record {
                    right = record {
                      volume = right.volume;
                      among = λ _. own.1;
                      cause = λ honest c. sym (causes-same honest)
                          ∙ right.cause honest c;
                      undamaged = right.undamaged;
                    };
                    writes = writes;
                    unchanged = λ clean'. within-when within (fails.unchanged clean');
                  })

      pub not-extended-by-one : FailsToPut home d r (of_known e) old new
      not-extended-by-one = by_memory (memory-cases e)
        where
          by_memory : (e ≡ NoMemory) ⊎ (e ≢ NoMemory) → FailsToPut home d r (of_known e) old new
          by_memory (inr not) = wants-none refl (without ((wants-still alive fails).right not))
          by_memory (inl is) =
              subst (λ (x : Refusal). FailsToPut home d r x old new) (is ∙ sym (ap of_known is))
              (record {
                right = λ not. absurd (not is);
                wanting = λ _. (
                  refl,
                  λ honest. let wants = (fails.wanting is).1 honest in
                      (sym (causes-same honest) ∙ wants.0, sym (wants-same honest) ∙ wants.1),
                );
                writes = writes;
                unchanged = λ clean. within-when within (fails.unchanged clean);
              })
