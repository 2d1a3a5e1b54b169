-- Records of a directory that was looked through, put and taken out.
use Rattle.std.proofs.Common.{◌≡◌, ℕ, ◌+◌, ◌*◌, ◌≤◌, Bool, false, IsTrue, List, Option, Some, None, refl, sym, ◌∙◌, ap, subst, arith}
use Rattle.std.proofs.Common.{if◌then◌else◌, is_none, nat_lt, option_map}
use Rattle.std.proofs.lemmas.Bool.{le-ltb}
use Rattle.std.proofs.lemmas.Option.{slice_get_within}
use Rattle.f11_dev.specs.Disk.{Disk}
use Rattle.f11_dev.specs.Image.{Image}
use Rattle.f11_dev.proofs.WentLemmas.{went_more, went_weaker}
use Rattle.f11_home.specs.Home.{HomeFields}
use Rattle.f11_store.specs.Causes.{first_of, is_missing}
use Rattle.f11_store.specs.Changes.{with_change, with_replacement}
use Rattle.f11_store.specs.Cost.{header_count}
use Rattle.f11_store.specs.Directory.{with_bytes, with_end}
use Rattle.f11_store.specs.File.{File, length_of}
use Rattle.f11_store.specs.Lags.{one_part, file_changes, LagsBy}
use Rattle.f11_store.specs.Store.{Store, file_of, file_named}
use Rattle.f11_store.specs.declared.files.Change.TheVariants as change
use Rattle.f11_store.specs.declared.files.FileId.{FileId}
use Rattle.f11_store.specs.declared.refusals.Refusal.{Refusal}
use Rattle.f11_store.specs.declared.refusals.Refusal.TheVariants.{NoSuchFile, EndOfFile}
use Rattle.f11_store.proofs.StoreLemmas.{file_of-with_change}
use Rattle.f11_entries.specs.Costs.{append_cost}
use Rattle.f11_entries.specs.Looks.{place_of}
use Rattle.f11_entries.specs.declared.spot.Spot.{Spot}
use Rattle.f11_files.specs.Answers.{Breaks, Meanwhile, WritesAtMost}
use Rattle.f11_files.specs.Finding.Blocks.{StoresBlock, block_work}
use Rattle.f11_files.specs.Changing.Fields.{Alters}
use Rattle.f11_files.specs.Operations.{file_causes, length_causes}
use Rattle.f11_files.specs.image_store.StoreOf.{store_of}
use Rattle.f11_fcp.specs.Entries.{HoldsSpot, HasBlocks, put_at, put_work, ReplacesEntry, BreaksReplacing, IsDirectoryTail, move_at, putting}
use Rattle.f11_fcp.specs.Entries.{moving, Appending, Appends}
use Rattle.f11_fcp.specs.declared.tail.Tail.{Tail}
use Rattle.f11_fcp.proofs.AccessedLemmas.{drop-false}

-- a file that is there
pub there-first : (b : Bool) (rest : Option Refusal) → b ≡ false → (if b then Some NoSuchFile else rest) ≡ rest
there-first b rest there = drop-false b (Some NoSuchFile) rest there

-- and has as many blocks
pub blocks-first : (s : Store) (d : FileId) (blocks : ℕ) → HasBlocks s d blocks → first_of (length_causes s d blocks) ≡ None
blocks-first s d blocks has =
    there-first (is_missing s d) _ has.there
    ∙ drop-false (nat_lt (length_of (file_named s d)) blocks) (Some EndOfFile) None
    (le-ltb (length_of (file_named s d)) blocks (omega (arith, has.more)))

-- the block in hand is one of them
pub spot-within : (s : Store) (d : FileId) (spot : Spot) → HoldsSpot s d spot → HasBlocks s d (spot.number + 1)
spot-within s d spot holds = record {
  there = holds.there;
  more = let within = slice_get_within (file_named s d).blocks spot.number spot.block holds.in_hand in omega (arith, within);
}

-- a block was written, in which the record was put
pub replaced : (home : HomeFields) (d : FileId) (spot : Spot) (r block : List ℕ) (old new : Disk)
    → block ≡ with_bytes spot.block (16 * spot.place) r
    → StoresBlock home d (spot.number + 1) block old new → ReplacesEntry home d spot r old new
replaced home d spot r block old new is does =
    let at = subst (λ (b : List ℕ). StoresBlock home d (spot.number + 1) b old new) is does in
    record { no_cause = λ _. refl; makes = at.makes; allots = λ _. tt; writes = at.writes }

pub breaks-replacing : (home : HomeFields) (d : FileId) (spot : Spot) (r block : List ℕ) (e : Refusal) (old new : Disk)
    → block ≡ with_bytes spot.block (16 * spot.place) r
    → Breaks (Meanwhile (block_work d (spot.number + 1) block) home old) (header_count (file_named (store_of old.image home) d) + 1) e old
    new → BreaksReplacing home d spot r e old new
breaks-replacing home d spot r block e old new is breaks =
    subst (λ (b : List ℕ). Breaks (Meanwhile (block_work d (spot.number + 1) b) home old)
    (header_count (file_named (store_of old.image home) d) + 1) e old new) is breaks

-- transfers after transfers, where an image of either kind is one of the third
pub writes-then : {P Q R : Image → Type 0} {a b c : Disk} {m n k faults : ℕ} → ((image : Image) → P image → R image)
    → ((image : Image) → Q image → R image)
    → WritesAtMost P m a b 0 → WritesAtMost Q n b c faults → (IsTrue a.honest → m + n ≤ k) → WritesAtMost R k a c faults
writes-then {P = P} {Q = Q} {R = R} one two first second fewer = record {
  transfers = first.transfers + second.transfers;
  went = went_more R (went_weaker P R one first.went) (went_weaker Q R two second.went);
  few = λ honest. let here = first.few honest in let there = second.few (first.went.honest ∙ honest) in let most = fewer honest in
      omega (arith, here, there, most);
}

pub writes-weaker : {P R : Image → Type 0} {a b : Disk} {m n faults : ℕ} → ((image : Image) → P image → R image) → (IsTrue a.honest → m ≤ n)
    → WritesAtMost P m a b faults → WritesAtMost R n a b faults
writes-weaker {P = P} {R = R} one fewer writes = record {
  transfers = writes.transfers;
  went = went_weaker P R one writes.went;
  few = λ honest. let here = writes.few honest in let most = fewer honest in omega (arith, here, most);
}

-- a record put keeps which file it is
put-sequence : (spot : Spot) (r : List ℕ) (f : File) → (put_at spot r f).sequence ≡ f.sequence
put-sequence spot r f = refl

pub put-there : (s : Store) (d : FileId) (spot : Spot) (r : List ℕ) → is_missing s d ≡ false
    → is_missing (with_change s d.number (put_at spot r)) d ≡ false
put-there s d spot r there = ap is_none (file_of-with_change s d (put_at spot r) (put-sequence spot r)) ∙ by_file (file_of s d) there
  where
    by_file : (o : Option File) → is_none o ≡ false → is_none (option_map (put_at spot r) o) ≡ false
    by_file None h = absurd (cc)
    by_file (Some f) h = refl

-- a record that is put behind the last one of a directory
module _ (home : HomeFields) (d : FileId) (tail : Tail) (r : List ℕ) (old mid : Disk)
    (is : IsTrue old.honest → IsDirectoryTail tail (store_of old.image home) d)
  where
    abbrev u : Store
    u = store_of old.image home

    abbrev um : Store
    um = store_of mid.image home

    under-put : (image : Image) → Meanwhile (put_work d tail.spot r) home old image → Appending home d tail r old image
    under-put image stands honest = let at = stands honest in putting at.sound at.lags

    -- the block wasn't written
    pub breaks-put : {e : Refusal} → BreaksReplacing home d tail.spot r e old mid
        → Breaks (Appending home d tail r old) (append_cost (file_named u d)) e old mid
    breaks-put breaks =
        record { fatal = breaks.fatal; undamaged = breaks.undamaged; writes = writes-weaker under-put (λ _. omega arith) breaks.writes }

    -- it was
    module _ (replaces : ReplacesEntry home d tail.spot r old mid) where
      then-honest : IsTrue old.honest → IsTrue mid.honest
      then-honest honest = replaces.writes.went.honest ∙ honest

      before-honest : IsTrue mid.honest → IsTrue old.honest
      before-honest sure = sym replaces.writes.went.honest ∙ sure

      -- the file is there still
      pub append-there : IsTrue mid.honest → first_of (file_causes um d) ≡ None
      append-there sure =
          let honest = before-honest sure in
          there-first (is_missing um d) None
          (subst (λ (s : Store). is_missing s d ≡ false) (sym (replaces.makes honest))
          (put-there u d tail.spot r (is honest).holds.there))

      module _ (attr : List ℕ) (attr-is : attr ≡ with_end tail.attr tail.length (16 * (place_of tail.spot + 1))) (new : Disk) where
        -- the new attributes are those with the end moved
        same-move : IsTrue old.honest → with_replacement (change.Attr attr) ≡ move_at tail d u
        same-move honest =
            ap (λ (a : List ℕ). with_replacement (change.Attr a))
            (attr-is ∙ ap (λ (a : List ℕ). with_end a tail.length (16 * (place_of tail.spot + 1))) (is honest).attr_is
            ∙ ap (λ (n : ℕ). with_end (file_named u d).attr n (16 * (place_of tail.spot + 1))) (is honest).length_is)

        under-move : (image : Image)
            → Meanwhile (one_part d.number (file_changes d.number (with_replacement (change.Attr attr)))) home mid image
            → Appending home d tail r old image
        under-move image stands honest =
            let at = stands (then-honest honest) in
            moving at.sound
            (subst (λ (c : File → File). LagsBy (one_part d.number (file_changes d.number c)) (store_of image home)
            (with_change u d.number (put_at tail.spot r))) (same-move honest)
            (subst (λ (s : Store). LagsBy (one_part d.number (file_changes d.number (with_replacement (change.Attr attr))))
            (store_of image home) s) (replaces.makes honest) at.lags))

        two : IsTrue old.honest → header_count (file_named u d) + 1 + 2 ≤ append_cost (file_named u d)
        two honest = omega arith

        pub appends : Alters (with_replacement (change.Attr attr)) home d mid new → Appends home d tail r old new
        appends does = record {
          makes =
              λ honest. does.makes (then-honest honest)
              ∙ ap (λ (s : Store). with_change s d.number (with_replacement (change.Attr attr))) (replaces.makes honest)
              ∙ ap (λ (c : File → File). with_change (with_change u d.number (put_at tail.spot r)) d.number c) (same-move honest);
          writes = writes-then under-put under-move replaces.writes does.writes two;
        }

        pub breaks-move : {e : Refusal}
            → Breaks (Meanwhile (one_part d.number (file_changes d.number (with_replacement (change.Attr attr)))) home mid) 2 e mid new
            → Breaks (Appending home d tail r old) (append_cost (file_named u d)) e old new
        breaks-move breaks = record {
          fatal = breaks.fatal;
          undamaged = λ honest. breaks.undamaged (then-honest honest);
          writes = writes-then under-put under-move replaces.writes breaks.writes two;
        }
