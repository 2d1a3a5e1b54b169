-- A file that is extended: its headers are read, those that it may need readied, and then it grows by runs.
use Rattle.std.proofs.Common.{◌≡◌, ◌≢◌, ◌≤◌, ◌<◌, ◌+◌, ◌-◌, ◌*◌, ◌/◌, ◌==◌, ◌&&◌, ◌||◌, ℕ, Bool, true, false, not, nat_lt, cond, IsTrue}
use Rattle.std.proofs.Common.{List, [], ◌∷◌, Some, None, option_map, length, ltb, eqb, Fits, w32, refl, sym, ap, subst, ◌∙◌, arith}
use Rattle.std.proofs.lemmas.Option.{same_Some}
use Rattle.f11_dev.specs.Disk.{Disk}
use Rattle.f11_dev.specs.Image.{Image, IsImage}
use Rattle.f11_dev.specs.Looked.{Looked}
use Rattle.f11_home.specs.Home.{HomeFields}
use Rattle.f11_chain.specs.declared.blocks.FileEnd.{FileEnd}
use Rattle.std.specs.List.{slice_get}
use Rattle.std.proofs.lemmas.Bool.{eqb-true}
use Rattle.f11_dev.proofs.LookedLemmas.{looked_none}
use Rattle.f11_dev.proofs.WentLemmas.{went_looked, went_weaker}
use Rattle.f11_header.proofs.AreaLemmas.{length-map_area}
use Rattle.f11_map.specs.HeaderBlock.{segment_number}
use Rattle.f11_index.specs.Headers.{headers_of, HasByteSegments, IsLastOf}
use Rattle.f11_index.specs.IndexFile.{index_of}
use Rattle.f11_index.specs.Table.{Table, table_of, IsFile, IsWholeFile}
use Rattle.f11_index.proofs.HeadersLemmas.{header-placed, last-ends, whole-last}
use Rattle.f11_index.proofs.SegmentLemmas.{table-bytes}
use Rattle.f11_store.specs.Causes.{◌⇐◌, first_of, growth_causes, header_causes, is_missing}
use Rattle.f11_store.specs.Causes as causes
use Rattle.f11_store.specs.Changes.{GetsSlots}
use Rattle.f11_store.proofs.Respects.{extend_respectful}
use Rattle.std.specs.Prelude.{is_none}
use Rattle.std.proofs.lemmas.Bool.Decides.{nat_tests}
use Rattle.f11_store.specs.Cost.{growth_cost, header_count, slots_cost}
use Rattle.f11_store.specs.File.{File, need}
use Rattle.f11_store.specs.Headroom.{slots_first}
use Rattle.f11_store.specs.Lags.{Work, extend_work, with_headers_first}
use Rattle.f11_store.specs.Refusal.{refusal_number}
use Rattle.f11_store.specs.SlotsFirst.{IsReady}
use Rattle.f11_store.specs.Step.{gets_slots}
use Rattle.f11_store.specs.Store.{Store, file_named, free_headers}
use Rattle.f11_store.specs.declared.files.FileId.{FileId}
use Rattle.f11_store.specs.declared.refusals.Refusal.{Refusal}
use Rattle.f11_store.specs.declared.refusals.Refusal.TheVariants.{NoSuchFile, TooManySegments, Damaged}
use Rattle.f11_store.proofs.SlotsFirst.{named-stays, of-stays, ready-may-extend}
use Rattle.f11_volume.specs.Volume.{volume_of}
use Rattle.f11_volume.proofs.FileLemmas.{image-files}
use Rattle.f11_image_store.specs.FileLaws.{room_in}
use Rattle.f11_image_store.specs.StoreOf.{store_of}
use Rattle.f11_image_store.proofs.KeptBlocksLemmas.{held-stored, is-stored}
use Rattle.f11_files.specs.Answers.{FailsOrWants, FailsToRead, IsRight, IsUnderWay, Meanwhile, ReadsAtMost}
use Rattle.f11_files.specs.Answers.{WritesAtMost, faults_of, is_among, is_fatal}
use Rattle.f11_files.specs.Extending.Again.{IsEndOf}
use Rattle.f11_files.specs.Extending.Room.{FindsFileEnd, HoldsEnd, HoldsRoom}
use Rattle.f11_files.specs.Extending.Runs.{headers_for, ExtendsFile, ExtendsInHand, FailsToExtend, FailsToExtendHeld, IsLengthAfter}
use Rattle.f11_files.specs.GrowingIndex.Headroom.{AllotsSlots, FailsToReady, ReadiesHeaders, ready_work}
use Rattle.f11_files.specs.Operations.{extend_causes, file_causes, held_causes}
use Rattle.f11_files.specs.Structure.{home_of, store_on, IsStructureFor}
use Rattle.f11_files.specs.declared.structure.Structure.{Structure}
use Rattle.f11_files.proofs.AnswerLemmas.{fails-more, right-cause}
use Rattle.f11_files.proofs.Behind.{honest-read, right-anyway, store-read, wants-as, wants-read, wants-within}
use Rattle.f11_files.proofs.Creating.Make.{fatal-enter}
use Rattle.f11_files.proofs.Overall.{does-within, growth-more, growth-stays}
use Rattle.f11_files.proofs.Extending.Room.{headers-named, last-few, last-of, room-named}
use Rattle.f11_files.proofs.Finding.Locate.{counts-last, held-are, reads-along, whole}
use Rattle.f11_files.proofs.Finding.Named.{found-named, is-file}
use Rattle.f11_files.proofs.Readied.{fails-first, fails-ready, honest-ready, is-ready}
use Rattle.f11_files.proofs.WriteLemmas.{as-wanting, fails-unread}

-- a file's last header stands at the end of its headers
at-end : (t : Table) (f n : ℕ) → IsLastOf t f n → segment_number (t.header n) < 256
    → slice_get (headers_of t f) (length (headers_of t f) - 1) ≡ Some n
at-end t f n last few =
    let count = last-ends t f n last few in
    let place : length (headers_of t f) - 1 ≡ segment_number (t.header n) = omega (arith, count) in
    ap (slice_get (headers_of t f)) place ∙ header-placed t f n last.of few

-- so that a file with the same headers has the same last one
same-last : (t u : Table) (f n : ℕ) → HasByteSegments u → IsWholeFile u f → headers_of u f ≡ headers_of t f → IsLastOf t f n
    → segment_number (t.header n) < 256 → IsLastOf u f n
same-last t u f n bytes whole same last few =
    let found = whole-last u f bytes whole in
    let here = at-end u f found.0 found.1 (bytes found.0) in
    let there = ap (λ (hs : List ℕ). slice_get hs (length hs - 1)) same ∙ at-end t f n last few in
    subst (IsLastOf u f) (same_Some found.0 n (sym here ∙ there)) found.1

-- where no cause stands against a call, its refusal fails the volume
pub fatal-none : (honest : Bool) (s : Store) (r : Refusal) → IsRight false honest [] r → is_fatal r ≡ true
fatal-none honest s r right = fatal-enter honest s r (right-anyway right) (other (eqb (refusal_number r) 17) refl)
  where
    other : (same : Bool) → eqb (refusal_number r) 17 ≡ same → same ≡ false
    other true is =
        let no : false ≡ true = right.among (ap (λ (k : ℕ). ltb 1 k && not (eqb k 19 || eqb k 20)) (eqb-true (refusal_number r) 17 is)) in
        absurd cc
    other false is = refl

-- headers are readied, as many where the disk is honest
readies-as : (home : HomeFields) (h k n : ℕ) (a b : Disk) → (IsTrue a.honest → k ≡ h) → ReadiesHeaders home h n a b
    → ReadiesHeaders home k n a b
readies-as home h k n a b same readies =
    let s : Store = store_of a.image home in
    record {
      does = record {
        no_cause = λ honest. ap (λ (m : ℕ). first_of (header_causes s m n)) (same honest) ∙ readies.does.no_cause honest;
        makes = λ honest. subst (λ (m : ℕ). GetsSlots (slots_first s m) s (store_of b.image home)) (sym (same honest))
            (readies.does.makes honest);
        allots = λ honest. subst (λ (m : ℕ). AllotsSlots (slots_first s m) (volume_of a.image home) (volume_of b.image home))
            (sym (same honest)) (readies.does.allots honest);
        writes = record {
          transfers = readies.does.writes.transfers;
          went = went_weaker (Meanwhile (ready_work s h) home a) (Meanwhile (ready_work s k) home a)
              (λ image is honest. subst (λ (m : ℕ). IsUnderWay (ready_work s m) home a.image image) (sym (same honest)) (is honest))
              readies.does.writes.went;
          few = λ honest. subst (λ (m : ℕ). readies.does.writes.transfers ≤ slots_cost s m) (sym (same honest))
              (readies.does.writes.few honest);
        };
      };
      enough = λ honest. subst (λ (m : ℕ). m ≤ free_headers (store_of b.image home)) (sym (same honest)) (readies.enough honest);
      sound = readies.sound;
    }

-- no file, or one of its headers couldn't be read
pub unfound : (home : HomeFields) (f : FileId) (n : ℕ) (r : Refusal) (old read : Disk)
    → FailsToRead false (file_causes (store_of old.image home) f) (header_count (file_named (store_of old.image home) f)) r old read
    → FailsToExtend false home f n r old read
unfound home f n r old read fails =
    as-wanting want (fails-unread {m = header_count file} (omega (arith, growth-more s file n))
    (fails-more {causes = file_causes s f} {others = extend_causes s f n} (more (eqb 6 (refusal_number r)) _) cause fails))
  where
    s : Store
    s = store_of old.image home

    file : File
    file = file_named s f

    want : refusal_number r ≢ 18
    want is = no (eqb 6 (refusal_number r)) refl (fails.right.among (ap (λ (k : ℕ). ltb 1 k && not (eqb k 19 || eqb k 20)) is))
      where
        no : (same : Bool) → eqb 6 (refusal_number r) ≡ same → (same || false) ≡ true → ⊥
        no true same is_among = let six = eqb-true 6 (refusal_number r) same in omega (arith, six, is)
        no false same is_among = absurd cc

    more : (a b : Bool) → (a || false) ≡ true → (a || b) ≡ true
    more true b is = refl
    more false b is = absurd cc

    cause : first_of (file_causes s f) ≡ Some r → first_of (extend_causes s f n) ≡ Some r
    cause = by_test (is_missing s f)
      where
        by_test : (b : Bool) → first_of ((NoSuchFile ⇐ b) ∷ []) ≡ Some r
            → cond b (Some NoSuchFile) (first_of (causes.extend_causes s file n)) ≡ Some r
        by_test true is = is
        by_test false is = absurd cc

module _ (s : Structure) (f : FileId) (n : ℕ) (end : FileEnd) (was last : List ℕ) (old read : Disk) (for : IsStructureFor s old)
    (own : 4 ≤ f.number) (finds : FindsFileEnd s f end was last old read) (room : ℕ) (room_is : room ≡ room_in last) where
  abbrev home : HomeFields
  home = home_of s

  abbrev st : Store
  st = store_on s old

  abbrev file : File
  file = file_named st f

  abbrev headers : ℕ
  headers = headers_for home f n old

  -- what was read, and what the file is then
  pub file-read : ReadsAtMost (header_count file) old read 0
  file-read = reads-along s f was old read 0 for finds.holds finds.ends.looked

  as-old : IsTrue read.honest → IsTrue old.honest
  as-old honest = sym (honest-read file-read home) ∙ honest

  still : store_of read.image home ≡ st
  still = store-read file-read home

  pub need-is : IsTrue old.honest → headers ≡ need room n
  need-is honest = ap (λ (k : ℕ). need k n) (room-named s f was old for finds.holds end last read finds.ends honest ∙ sym room_is)

  there : IsTrue old.honest → is_missing st f ≡ false
  there honest = (found-named s f old for honest (is-file s f was old for finds.holds honest)).0

  count-is : IsTrue old.honest → length file.held ≡ end.headers
  count-is honest = headers-named s f was old for finds.holds end last read finds.ends honest

  -- the causes against it
  growth-causes-are : IsTrue old.honest
      → first_of (causes.extend_causes st file n) ≡ cond (nat_lt 256 (end.headers + need room n)) (Some TooManySegments)
      (first_of (header_causes st headers n))
  growth-causes-are honest =
      ap (λ (k : ℕ). cond (nat_lt 256 (k + headers)) (Some TooManySegments) (first_of (header_causes st headers n))) (count-is honest)
      ∙ ap (λ (k : ℕ). cond (nat_lt 256 (end.headers + k)) (Some TooManySegments) (first_of (header_causes st headers n))) (need-is honest)

  causes-are : IsTrue old.honest
      → first_of (extend_causes st f n) ≡ cond (nat_lt 256 (end.headers + need room n)) (Some TooManySegments)
      (first_of (header_causes st headers n))
  causes-are honest =
      ap (λ (b : Bool). cond b (Some NoSuchFile) (first_of (causes.extend_causes st file n))) (there honest) ∙ growth-causes-are honest

  pub too-long : nat_lt 256 (end.headers + need room n) ≡ true → FailsToExtend false home f n TooManySegments old read
  too-long long =
      as-wanting (λ is. omega (arith, is)) (fails-unread {m = header_count file} (omega (arith, growth-more st file n)) record {
        right = right-cause _ _ _ (λ is. omega (arith, is)) (λ is. omega (arith, is)) refl
            (λ honest. causes-are honest ∙ ap (λ (b : Bool). cond b (Some TooManySegments) (first_of (header_causes st headers n))) long);
        reads = file-read;
      })

  module _ (fits : nat_lt 256 (end.headers + need room n) ≡ false) where
    short : IsTrue old.honest → first_of (extend_causes st f n) ≡ first_of (header_causes st headers n)
    short honest = causes-are honest ∙ ap (λ (b : Bool). cond b (Some TooManySegments) (first_of (header_causes st headers n))) fits

    -- headers weren't readied
    pub unready : (r : Refusal) (new : Disk) → FailsToReady false home (need room n) n r read new → FailsToExtend false home f n r old new
    unready r new fails =
        fails-first (extend_causes st f n) {m = header_count file + slots_cost st headers} headers (extend_work f.number file.room n) r
        (omega (arith, growth-more st file n))
        (wants-as {causes = header_causes st (need room n) n} {others = extend_causes st f n}
        (among (eqb 6 (refusal_number r)) (eqb 15 (refusal_number r)) _)
        (λ honest. short honest ∙ ap (λ (h : ℕ). first_of (header_causes st h n)) (need-is honest))
        (λ honest. ap (λ (h : ℕ). gets_slots (slots_first st h)) (need-is honest)) (λ honest. ap (ready_work st) (need-is honest))
        (λ honest. let same = ap (slots_cost st) (need-is honest) in omega (arith, same))
        (wants-read file-read home
        (subst (λ (x : Store). FailsOrWants (gets_slots (slots_first x (need room n))) false (header_causes x (need room n) n)
        (slots_cost x (need room n)) (ready_work x (need room n)) home r read new) still fails)))
      where
        among : (a b c : Bool) → c ≡ true → (a || (b || c)) ≡ true
        among true b c is = refl
        among false true c is = refl
        among false false c is = is

    pub readies-file : (ready : Disk) → ReadiesHeaders home (need room n) n read ready → ReadiesHeaders home headers n read ready
    readies-file ready readies = readies-as home (need room n) headers n read ready (λ honest. need-is (as-old honest)) readies

    -- once they are ready
    module _ (ready : Disk) (readies : ReadiesHeaders home headers n read ready) where
      abbrev was_store : Store
      was_store = store_of read.image home

      abbrev now : Store
      now = store_of ready.image home

      as-read : IsTrue ready.honest → IsTrue read.honest
      as-read honest = sym (honest-ready readies) ∙ honest

      other : (f.number == 1) ≡ false
      other = grind (arith, nat_tests, own)

      is-now : IsTrue read.honest → IsReady st (slots_first was_store headers) now
      is-now honest = subst (λ (x : Store). IsReady x (slots_first was_store headers) now) still (is-ready readies honest)

      -- the file is as it was
      file-now : IsTrue read.honest → file_named now f ≡ file
      file-now honest = named-stays st now (slots_first was_store headers) f (is-now honest) other

      missing-now : IsTrue read.honest → is_missing now f ≡ false
      missing-now honest = ap is_none (of-stays st now (slots_first was_store headers) f (is-now honest) other) ∙ there (as-old honest)

      no-cause-read : IsTrue read.honest → first_of (causes.extend_causes was_store file n) ≡ None
      no-cause-read honest =
          ap (λ (x : Store). first_of (causes.extend_causes x file n)) still ∙ growth-causes-are (as-old honest)
          ∙ ap (λ (b : Bool). cond b (Some TooManySegments) (first_of (header_causes st headers n))) fits
          ∙ ap (λ (x : Store). first_of (header_causes x headers n)) (sym still) ∙ readies.does.no_cause honest

      pub no-cause-old : IsTrue old.honest → first_of (extend_causes st f n) ≡ None
      no-cause-old honest =
          let sure = honest-read file-read home ∙ honest in
          short honest ∙ ap (λ (x : Store). first_of (header_causes x headers n)) (sym still) ∙ readies.does.no_cause sure

      -- there is room for the blocks
      no-cause-now : IsTrue ready.honest → first_of (held_causes now f n) ≡ None
      no-cause-now honest =
          let sure = as-read honest in
          ap (λ (b : Bool). cond b (Some NoSuchFile) (first_of (growth_causes now (file_named now f) n))) (missing-now sure)
          ∙ ap (λ (g : File). first_of (growth_causes now g n)) (file-now sure)
          ∙ ready-may-extend was_store now n file (readies.does.makes sure) (readies.enough sure) (no-cause-read sure)

      pub room-ready : (t : Structure) (d : Disk) (was_now last_now : List ℕ) → home_of t ≡ home → {most faults : ℕ}
          → Looked ready d most faults → HoldsEnd t f end was_now last_now d → HoldsRoom t f n end was_now last_now d
      room-ready t d was_now last_now at looked ends = record {
        no_cause = λ honest.
            ap (λ (i : Image). first_of (held_causes (store_of i (home_of t)) f n)) looked.image
            ∙ ap (λ (h : HomeFields). first_of (held_causes (store_of ready.image h) f n)) at
            ∙ no-cause-now (sym looked.honest ∙ honest);
        ends = ends;
      }

      -- the last header is that of the file still
      pub end-again : IsImage ready.image → IsTrue ready.honest → IsEndOf ready.image home f end
      end-again image honest =
          let sure = as-read honest in
          let u : Table = table_of ready.image home in
          let t : Table = table_of old.image home in
          let sound = for.sound (as-old sure) in
          let sound' = readies.sound sure in
          let whole-old : IsWholeFile t f.number = whole s f was old for finds.holds (as-old sure) in
          let held : option_map (λ (g : File). g.held) (now.file f.number) ≡ option_map (λ (g : File). g.held) (st.file f.number) =
          ap (option_map (λ (g : File). g.held)) ((is-now sure).others f.number other) in
          let before = held-stored old.image home f.number sound whole-old.file in
          let file' : IsFile u f.number = is-stored ready.image home f.number (headers_of t f.number) (held ∙ before) in
          let same : headers_of u f.number ≡ headers_of t f.number =
          same_Some (headers_of u f.number) (headers_of t f.number)
          (sym (held-stored ready.image home f.number sound' file') ∙ held ∙ before) in
          let count = ap (λ (hs : List ℕ). length hs) same in
          let counted = ap (λ (hs : List ℕ). length hs) (held-are s f was old for finds.holds (as-old sure)) in
          let counts = count-is (as-old sure) in
          record {
            there = ap (λ (b : Bool). cond b (Some NoSuchFile) None) (missing-now sure);
            last =
                same-last t u f.number end.number (table-bytes ready.image (index_of ready.image home) image)
                ((image-files ready.image home sound').each f.number file').whole same
                (last-of s f was old for finds.holds end last read finds.ends (as-old sure))
                (last-few s f was old for finds.holds end last read finds.ends (as-old sure));
            headers = omega (arith, count, counted, counts);
          }

      abbrev work : Work
      work = extend_work f.number file.room n

      abbrev few : ℕ
      few = growth_cost st file n - 1 - header_count file

      work-now : IsTrue read.honest → extend_work f.number (file_named now f).room n ≡ work
      work-now honest = ap (λ (g : File). extend_work f.number g.room n) (file-now honest)

      left-now : IsTrue read.honest → growth_cost now (file_named now f) n - 1 - header_count (file_named now f) ≡ few
      left-now honest =
          ap (λ (g : File). growth_cost now g n - 1 - header_count g) (file-now honest)
          ∙ ap (λ (c : ℕ). c - 1 - header_count file) (growth-stays st now (slots_first was_store headers) file n (is-now honest))

      -- what broke off then
      fails-behind : (r : Refusal) (new : Disk) → is_fatal r ≡ true → (IsTrue ready.honest → r ≢ Damaged)
          → (k : ℕ) → (IsTrue read.honest → k ≤ few)
          → WritesAtMost (Meanwhile (extend_work f.number (file_named now f).room n) home ready) k ready new (faults_of r)
          → FailsToExtend false home f n r old new
      fails-behind r new fatal undamaged k fewer writes =
          wants-within (omega (arith, growth-more st file n))
          (subst (λ (x : Store). FailsOrWants (gets_slots (slots_first st headers)) false (extend_causes st f n)
          (header_count file + (slots_cost x headers + few)) (with_headers_first x headers work) home r old new) still
          (wants-read file-read home
          (fails-ready readies work (extend_work f.number (file_named now f).room n) work-now (extend_respectful f.number n)
          (extend_causes st f n) [] few r (λ honest. no-cause-old (as-old honest)) (λ _. refl) fewer fatal
          (λ honest. undamaged (honest-ready readies ∙ honest)) writes)))

      -- or where a header wasn't in use any more
      pub fails-again : ¬ IsTrue ready.honest → FailsToExtend false home f n Damaged old ready
      fails-again never = fails-behind Damaged ready refl (λ honest. absurd (never honest)) 0 (λ honest. omega arith) record {
        transfers = 0;
        went = went_looked (Meanwhile (extend_work f.number (file_named now f).room n) home ready) (looked_none ready);
        few = λ honest. omega arith;
      }

      -- its headers are in hand, so that two transfers are left
      parts : (h b i m : ℕ) → 2 + (h + b + 5 * n + (i + 8) * (m + 1) - 1 - h - 2) ≤ h + b + 5 * n + (i + 8) * (m + 1) - 1 - h
      parts h b i m = omega arith

      two-left : 2 + (growth_cost now (file_named now f) n - 1 - header_count (file_named now f) - 2)
          ≤ growth_cost now (file_named now f) n - 1 - header_count (file_named now f)
      two-left = parts (header_count (file_named now f)) now.bitmap_blocks now.index_bitmap_blocks ((n + 101) / 102)

      pub fails-in-hand : (r : Refusal) (new : Disk) → FailsToExtendHeld home f n r ready new → FailsToExtend false home f n r old new
      fails-in-hand r new fails =
          fails-behind r new (fatal-none ready.honest now r fails.right) (λ honest. fails.right.undamaged honest) _
          (λ honest. let left = left-now honest in omega (arith, left, two-left)) fails.writes

      pub extends-then : (new : Disk) → ExtendsInHand home f n ready new → ExtendsFile home f n old new
      extends-then new extends = record {
        no_cause = no-cause-old;
        read = read;
        reads = file-read;
        ready = ready;
        readies = readies;
        extends = does-within (omega (arith, two-left)) extends;
      }

  pub length-then : IsLengthAfter home f n old (end.blocks + n)
  length-then honest =
      ap (λ (blocks : ℕ). blocks + n) ((counts-last s f was old read for finds.holds own end last finds.ends).length_is honest)

-- what refuses it once its headers are in hand fails the volume
pub fatal-held : (home : HomeFields) (f : FileId) (n : ℕ) (r : Refusal) (old new : Disk) → FailsToExtendHeld home f n r old new
    → is_fatal r ≡ true
fatal-held home f n r old new fails = fatal-none old.honest (store_of old.image home) r fails.right

-- a file may have no more blocks than 32 bits tell
pub few-enough : (end : FileEnd) (room n : ℕ) (last : List ℕ) → length last ≡ 512 → end.headers ≤ 256 → end.blocks ≤ 32512 * end.headers
    → false ≡ nat_lt 256 (end.headers + need room n) → room ≡ room_in last → Fits w32 (end.blocks + n)
few-enough end room n last long few_headers blocks fits room_is =
    let area = length-map_area last long in
    let need_few : end.headers + need room n ≤ 256 = grind (arith, nat_tests, fits) in
    omega (arith, area, few_headers, blocks, need_few, room_is)
