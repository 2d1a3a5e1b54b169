-- A file that is deleted.
use Rattle.std.proofs.Common.{◌≡◌, ◌≢◌, ◌+◌, ◌-◌, ◌*◌, ◌<◌, ◌≤◌, ℕ, suc, Bool, true, false, cond, IsTrue, List, [], ◌∷◌, Option, Some, None}
use Rattle.std.proofs.Common.{unwrap_or, length, refl, sym, ap, subst, ◌∙◌, arith}
use Rattle.std.specs.List.{slice_get, sum_by}
use Rattle.std.proofs.lemmas.List.{length-append, length-map}
use Rattle.std.proofs.lemmas.List.Sums.{sum_by-cons}
use Rattle.f11_dev.specs.Disk.{Disk}
use Rattle.f11_dev.specs.Image.{Image, IsImage}
use Rattle.f11_dev.proofs.WentLemmas.{went_looked, went_weaker}
use Rattle.f11_header.specs.Writing.{dead_header}
use Rattle.f11_home.specs.Home.{HomeFields}
use Rattle.f11_map.specs.HeaderBlock.{segment_number, blocks_named}
use Rattle.f11_index.specs.Headers.{headers_from, headers_of}
use Rattle.f11_index.specs.IndexFile.{index_of}
use Rattle.f11_index.specs.Table.{Table, table_of, IsLive, first}
use Rattle.f11_index.proofs.ChainLemmas.{live_of-header}
use Rattle.f11_index.proofs.HeadersLemmas.{link_number, live-some, headers_from-some, place-has}
use Rattle.f11_index.proofs.SegmentLemmas.{table-bytes}
use Rattle.f11_chain.specs.FileHeaders.{blocks_by, file_blocks}
use Rattle.f11_store.specs.Causes.{Cause, first_of}
use Rattle.f11_store.specs.Changes.{is_in, with_file, without_slots, without_file, without_file_at}
use Rattle.f11_store.specs.Cost.{cut_cost}
use Rattle.f11_store.specs.File.{File, no_file, length_of}
use Rattle.f11_store.specs.Lags.{Work, AreLike, LagsBy, go_work}
use Rattle.f11_store.specs.Store.{Store, file_named}
use Rattle.f11_store.specs.declared.files.FileId.{FileId}
use Rattle.f11_store.specs.declared.refusals.Refusal.{Refusal}
use Rattle.f11_store.proofs.Growth.{alike}
use Rattle.f11_store.proofs.LagLaws.{frees_lags}
use Rattle.f11_volume.specs.Contents.{pointer_count, file_of}
use Rattle.f11_volume.specs.Volume.{Volume, volume_of}
use Rattle.f11_volume.proofs.FileLemmas.{image-files, reached-are, file-blocks-are}
use Rattle.f11_writes.specs.Kept.{file_in}
use Rattle.f11_writes.specs.OtherSlots.{KeepsOtherSlots}
use Rattle.f11_writes.proofs.OtherSlotLemmas.{turned, header-was}
use Rattle.f11_image_store.specs.Allocation.{FreesBlocks, Kills, LosesHeaders}
use Rattle.f11_files.specs.Answers.{IsRight, WritesAtMost, FailsToWrite, Meanwhile, is_fatal}
use Rattle.f11_files.proofs.AnswerLemmas.{fatal-no-cause}
use Rattle.f11_files.specs.Removing.Delete.{Deletes, FailsToDelete}
use Rattle.f11_files.specs.Removing.Drops.{BreaksOff, DropsHeader, DropsBehind, HangsBehind, KeepsBlocksBut, headers_behind, drop_cost}
use Rattle.f11_files.specs.Removing.Drops.{tail_cost, without_header, without_headers}
use Rattle.f11_image_store.specs.Freeing.{FreesMore, Freeing}
use Rattle.f11_store.specs.Pieces.{with_more_free}
use Rattle.f11_image_store.specs.FileLaws.{pointers_in}
use Rattle.f11_files.specs.Finding.First.{FindsFile, HoldsFile}
use Rattle.f11_files.specs.Operations.{file_causes}
use Rattle.f11_image_store.specs.SlotLaws.{with_use, KeepsOtherBlocks}
use Rattle.f11_image_store.specs.StoreOf.{store_of}
use Rattle.f11_files.specs.Structure.{index_in, home_of, store_on, IsStructureFor}
use Rattle.f11_files.specs.declared.structure.Structure.{Structure}
use Rattle.f11_files.proofs.WriteLemmas.{breaks-off}
use Rattle.f11_image_store.proofs.FreeingLemmas.{frees-slot, frees-none, frees-then, frees-blocks, freeing-more}
use Rattle.f11_files.proofs.Removing.Drop.{drop-store}
use Rattle.f11_files.proofs.Removing.Freeing.{writes-then, writes-within, breaks-then, breaks-within}
use Rattle.f11_files.proofs.Removing.Kill.{IsKilled, in_use-place, killed-both}
use Rattle.f11_files.proofs.Finding.Locate.{whole, held-are}
use Rattle.f11_files.proofs.Removing.Loss.{in-behind, in-first, LosesAlike, loses-then, loses-all, lost-all, loses-first, in-at}
use Rattle.f11_files.proofs.Finding.Named.{block-is, no-file-cause, held-named, seen-same, file-stored}
use Rattle.f11_image_store.proofs.StoreLemmas.{file-at, seen-own}
use Rattle.f11_files.proofs.Removing.Behind.{hangs-from, hangs-are, hangs-blocks, hangs-pointers}

-- a store with no less free than that without the file lags by its going
pub frees-gone : (s t : Store) (k : ℕ) → FreesMore (with_file s k None) t → LagsBy (go_work k) t s
frees-gone s t k frees = frees_lags (go_work k) s t
    (λ n. subst (λ (o : Option File). AreLike o ((with_file s k None).file n)) (sym (frees.files n)) (alike ((with_file s k None).file n)))
    frees.slots
    (record {
      others = λ n out. frees.files n ∙ ap (λ (b : Bool). cond b None (s.file n)) out;
      free = frees.free;
      unused = frees.unused;
      last = frees.last;
      slots = frees.slots;
      limits = record {
        bitmap_blocks = frees.limits.bitmap_blocks;
        index_bitmap_blocks = frees.limits.index_bitmap_blocks;
        limit = frees.limits.limit;
      };
    })

pub gone-moment : (home : HomeFields) (k : ℕ) (old : Disk) (image : Image)
    → Freeing home (with_file (store_of old.image home) k None) old image → Meanwhile (go_work k) home old image
gone-moment home k old image is honest =
    let there = is honest in record { sound = there.sound; lags = frees-gone (store_of old.image home) (store_of image home) k there.frees }

-- what was broken off was refused, whatever the causes
pub breaks-right : {home : HomeFields} {s : Store} {most : ℕ} {r : Refusal} {old new : Disk} (causes : List Cause)
    → BreaksOff home s most r old new → IsRight false old.honest causes r
breaks-right {r = r} causes breaks = record {
  volume = λ is. let no : true ≡ false = sym breaks.fatal ∙ ap is_fatal is in cc;
  among = λ is. absurd (fatal-no-cause r breaks.fatal is);
  cause = λ _ is. absurd (fatal-no-cause r breaks.fatal is);
  undamaged = breaks.undamaged;
}

pub breaks-fails : {home : HomeFields} {s : Store} {most : ℕ} {r : Refusal} {old new : Disk} (causes : List Cause) (work : Work)
    → (IsTrue old.honest → first_of causes ≡ None)
    → ((image : Image) → Freeing home s old image → Meanwhile work home old image)
    → BreaksOff home s most r old new → FailsToWrite false causes most work home r old new
breaks-fails {home = home} {s = s} {old = old} causes work none moments breaks =
    breaks-off none breaks.fatal (breaks-right causes breaks)
    (record {
      transfers = breaks.writes.transfers;
      went = went_weaker (Freeing home s old) (Meanwhile work home old) moments
          breaks.writes.went;
      few = breaks.writes.few;
    })

-- a file's first header in hand, on an honest disk
module _ (s : Structure) (f : FileId) (block : List ℕ) (disk : Disk) (for : IsStructureFor s disk)
    (holds : HoldsFile (index_in s) f block disk) (honest : IsTrue disk.honest) where
  abbrev t : Table
  t = table_of disk.image (home_of s)

  abbrev named : File
  named = file_named (store_on s disk) f

  pub pointers-are : named.pointers ≡ sum_by (pointer_count t) (headers_of t f.number)
  unfolding file_of
  pointers-are =
      ap (λ (g : File). g.pointers) (held-named s f block disk for holds honest)
      ∙ seen-same (λ (g : File). g.pointers) (λ g. refl) f.number (file_in (home_of s) f.number disk.image)
      ∙ ap (sum_by (pointer_count t))
      (reached-are 256 t f.number (whole s f block disk for holds honest) (first (whole s f block disk for holds honest).file))

  first-is : segment_number (t.header f.number) ≡ 0
  first-is = (whole s f block disk for holds honest).file.first

  -- its headers are this one and those behind it
  pub headers-are : headers_of t f.number ≡ f.number ∷ headers_behind t (t.header f.number)
  headers-are =
      let fuel : 255 ≡ 255 - segment_number (t.header f.number) = omega (arith, first-is) in
      headers_from-some 255 t f.number (live-some (whole s f block disk for holds honest).file.live)
      ∙ ap (λ (most : ℕ). f.number ∷ headers_from most t (link_number t f.number)) fuel

  -- it is one of them
  pub first-listed : is_in (headers_of t f.number) f.number ≡ true
  first-listed = ap (λ (ns : List ℕ). is_in ns f.number) headers-are ∙ in-first f.number (headers_behind t (t.header f.number))

  -- the store has it
  pub file-is : 4 ≤ f.number → (store_on s disk).file f.number ≡ Some named
  file-is own =
      file-stored disk.image (home_of s) f.number
      ∙ file-at disk.image t f.number (Some named) (λ _. ap Some (sym (held-named s f block disk for holds honest)))
      (λ none. absurd (none (whole s f block disk for holds honest).file))

  pub length-is : 4 ≤ f.number → length_of named ≡ length (blocks_by t (headers_of t f.number))
  unfolding file_blocks
  length-is own =
      ap length_of (held-named s f block disk for holds honest ∙ seen-own f.number (file_in (home_of s) f.number disk.image) own)
      ∙ ap (λ (bs : List (List ℕ)). length bs) (file-blocks-are disk.image t f.number (whole s f block disk for holds honest))
      ∙ length-map (file_blocks t f.number) _

-- the file goes, its first header first
module _ (s : Structure) (f : FileId) (block : List ℕ) (old read : Disk) (for : IsStructureFor s old) (late : 6 ≤ f.number)
    (finds : FindsFile (index_in s) f block old read) (old_image : IsImage old.image) where
  abbrev h : HomeFields
  h = home_of s

  abbrev n : ℕ
  n = f.number

  abbrev most : ℕ
  most = cut_cost (file_named (store_on s old) f) - 1

  abbrev was : Table
  was = table_of old.image h

  read-writes : WritesAtMost (Freeing h (with_file (store_on s old) n None) old) 1 old read 0
  read-writes = record { transfers = 1; went = went_looked _ finds.looked; few = λ _. omega arith }

  cost-was : IsTrue old.honest
      → 5 * (1 + length (headers_behind was (was.header n))) + 4
      * (pointers_in block + sum_by (pointer_count was) (headers_behind was (was.header n))) ≤ most
  cost-was honest =
      let held = ap (λ (hs : List ℕ). length hs)
      (held-are s f block old for finds.holds honest ∙ headers-are s f block old for finds.holds honest) in
      let pointers = pointers-are s f block old for finds.holds honest
      ∙ ap (sum_by (pointer_count was)) (headers-are s f block old for finds.holds honest)
      ∙ sum_by-cons (pointer_count was) n (headers_behind was (was.header n)) in
      let own = ap pointers_in (block-is s f block old for finds.holds honest) in
      omega (arith, held, pointers, own)

  pub gone-first : (r : Refusal) (new : Disk) → BreaksOff h (with_file (store_of read.image h) n None) (drop_cost block) r read new
      → FailsToDelete false h f r old new
  gone-first r new breaks =
      let whole-breaks = breaks-then (λ _. frees-none (with_file (store_on s old) n None)) read-writes
      (subst (λ (i : Image). BreaksOff h (with_file (store_of i h) n None) (drop_cost block) r read new) finds.looked.image breaks) in
      breaks-fails (file_causes (store_on s old) f) (go_work n) (λ honest. no-file-cause s f block old for finds.holds honest)
      (gone-moment h n old) (breaks-within (λ honest. let cost = cost-was honest in omega (arith, cost)) whole-breaks)

  module _ (c : Structure) (now : Disk) (drops : DropsHeader h n block read now) (same : home_of c ≡ h) (is_image : IsImage now.image) where
    abbrev u : Table
    u = table_of now.image h

    tables : table_of read.image h ≡ was
    tables = ap (λ (i : Image). table_of i h) finds.looked.image

    module _ (honest : IsTrue old.honest) where
      read-honest : IsTrue read.honest
      read-honest = finds.looked.honest ∙ honest

      header-is : block ≡ was.header n
      header-is = block-is s f block old for finds.holds honest

      others : KeepsOtherSlots n was u
      others = subst (λ (v : Table). KeepsOtherSlots n v u) tables (drops.others read-honest)

      unused : u.in_use n ≡ false
      unused = drops.unused read-honest

      gone : ¬ IsLive u n
      gone is = let used = sym unused ∙ is.in_use in cc

      abbrev hs : List ℕ
      hs = headers_behind was (was.header n)

      hangs : HangsBehind u (was.header n) hs
      hangs =
          let files = image-files old.image h (for.sound honest) in
          let file = whole s f block old for finds.holds honest in
          hangs-from was u n n others files.chained (table-bytes old.image (index_of old.image h) old_image) file (first file.file)
          (λ m away in_file. record { file = in_file.file; of = header-was was u n others in_file.file gone in_file.of })
          (λ m goes. gone goes.from)

      behind-is : headers_behind u block ≡ hs
      behind-is =
          ap (headers_behind u) header-is ∙ hangs-are u (was.header n) hs (table-bytes now.image (index_of now.image h) is_image) hangs

      away : (m : ℕ) → IsLive u m → 0 < segment_number (u.header m) → m ≢ n
      away m live more is = gone (subst (IsLive u) is live)

      -- the rest, in the words of the table before
      blocks-behind : blocks_by u hs ≡ blocks_by was hs
      blocks-behind = sym (hangs-blocks u was n 0 (turned was u n others) away (was.header n) hs (omega arith) hangs)

      pointers-behind : sum_by (pointer_count u) hs ≡ sum_by (pointer_count was) hs
      pointers-behind = sym (hangs-pointers u was n 0 (turned was u n others) away (was.header n) hs (omega arith) hangs)

      -- the first header's own blocks are free
      blocks-freed : FreesBlocks (blocks_named (was.header n)) (volume_of old.image h) (volume_of now.image h)
      blocks-freed =
          subst (λ (b : List ℕ). FreesBlocks (blocks_named b) (volume_of old.image h) (volume_of now.image h)) header-is
          (subst (λ (i : Image). FreesBlocks (blocks_named block) (volume_of i h) (volume_of now.image h)) finds.looked.image
          (drops.frees read-honest))

      loses-one : LosesAlike (n ∷ hs) hs (volume_of old.image h) (volume_of now.image h)
      unfolding volume_of
      loses-one = loses-first n hs (volume_of old.image h) (volume_of now.image h) others unused blocks-freed blocks-behind

      -- its header was killed
      is-killed : IsKilled n was u
      is-killed =
          let place = in_use-place old.image h n (whole s f block old for finds.holds honest).file.live.in_use in
          record { some = place.0; within = place.1; kills = drops.dead read-honest ∙ ap dead_header header-is }

      others-stay : KeepsOtherBlocks n was u
      others-stay = subst (λ (v : Table). KeepsOtherBlocks n v u) tables (drops.blocks read-honest)

      -- each header behind it was in a slot of the table's
      places : (m : ℕ) → is_in hs m ≡ true → (0 < m) × (m ≤ was.slots)
      places m is =
          let there = in-at hs m is in
          let listed = ap (λ (l : List ℕ). slice_get l (suc there.0)) (headers-are s f block old for finds.holds honest) ∙ there.1 in
          in_use-place old.image h m
          (live_of-header (place-has was n m (suc there.0) (whole s f block old for finds.holds honest) listed).of).in_use

      -- and then the others went
      module _ (new : Image) (loses : LosesHeaders (headers_behind u block) (volume_of now.image h) (volume_of new h))
          (stays : KeepsBlocksBut (headers_behind u block) u (table_of new h)) where
        rest-lost : LosesHeaders hs (volume_of now.image h) (volume_of new h)
        rest-lost = subst (λ (ns : List ℕ). LosesHeaders ns (volume_of now.image h) (volume_of new h)) behind-is loses

        all-killed : (m : ℕ) → is_in (n ∷ hs) m ≡ true → Kills m was (table_of new h)
        unfolding volume_of
        all-killed =
            killed-both n hs was u (table_of new h) others-stay is-killed
            (subst (λ (ns : List ℕ). KeepsBlocksBut ns u (table_of new h)) behind-is stays) places rest-lost.killed

        loses-file : LosesHeaders (headers_of was n) (volume_of old.image h) (volume_of new h)
        unfolding volume_of
        loses-file =
            let v : Volume = volume_of old.image h in
            let w : Volume = volume_of now.image h in
            let x : Volume = volume_of new h in
            subst (λ (ns : List ℕ). LosesHeaders ns v x) (sym (headers-are s f block old for finds.holds honest))
            (loses-all (n ∷ hs) v x (loses-then (n ∷ hs) hs [] v w x loses-one (lost-all hs w x rest-lost)) all-killed)

      store-now : store_of now.image h ≡ without_header (store_on s old) n (length (blocks_named block))
      store-now =
          drops.store read-honest ∙ ap (λ (i : Image). without_header (store_of i h) n (length (blocks_named block))) finds.looked.image

      frees-now : FreesMore (with_file (store_on s old) n None) (store_of now.image h)
      frees-now =
          let gone_store : Store = with_file (store_on s old) n None in
          subst (FreesMore gone_store) (sym store-now)
          (frees-then gone_store (with_use gone_store n false) (without_header (store_on s old) n (length (blocks_named block)))
          (frees-slot gone_store n)
          (frees-blocks (with_use gone_store n false) (length (blocks_named block))))

      cost-behind : 1 + drop_cost block + tail_cost u (headers_behind u block) ≤ most
      cost-behind =
          let same_list = ap (λ (ns : List ℕ). tail_cost u ns) behind-is in
          let cost = cost-was honest in
          omega (arith, same_list, pointers-behind, cost)

      gone-store : with_more_free (without_slots (without_header (store_on s old) n (length (blocks_named block))) hs)
          (length (blocks_by was hs)) ≡ without_file_at (store_on s old) n
      gone-store =
          let st : Store = store_on s old in
          let g : File = file_named st f in
          let own : 4 ≤ n = omega (arith, late) in
          let held : n ∷ hs ≡ g.held =
          sym (held-are s f block old for finds.holds honest ∙ headers-are s f block old for finds.holds honest) in
          let counted : length (blocks_named block) + length (blocks_by was hs) ≡ length_of g =
          ap (λ (b : List ℕ). length (blocks_named b) + length (blocks_by was hs)) header-is
          ∙ sym (length-append (blocks_named (was.header n)) (blocks_by was hs))
          ∙ ap (λ (ns : List ℕ). length (blocks_by was ns)) (sym (headers-are s f block old for finds.holds honest))
          ∙ sym (length-is s f block old for finds.holds honest own) in
          drop-store st n (length (blocks_named block)) (length (blocks_by was hs)) hs
          ∙ ap (λ (ns : List ℕ). with_more_free (with_file (without_slots st ns) n None)
          (length (blocks_named block) + length (blocks_by was hs))) held
          ∙ ap (with_more_free (with_file (without_slots st g.held) n None)) counted
          ∙ ap (λ (o : Option File). without_file st n (unwrap_or o no_file)) (sym (file-is s f block old for finds.holds honest own))

    now-honest : IsTrue now.honest → IsTrue old.honest
    now-honest honest = sym finds.looked.honest ∙ sym drops.writes.went.honest ∙ honest

    pub behind-hangs : IsTrue now.honest
        → HangsBehind (table_of now.image (home_of c)) block (headers_behind (table_of now.image (home_of c)) block)
    behind-hangs honest =
        let sure = now-honest honest in
        subst (λ (k : HomeFields). HangsBehind (table_of now.image k) block (headers_behind (table_of now.image k) block)) (sym same)
        (subst (λ (b : List ℕ). HangsBehind u b (headers_behind u block)) (sym (header-is sure))
        (subst (HangsBehind u (was.header n)) (sym (behind-is sure)) (hangs sure)))

    -- those are of the file, too
    pub behind-listed : IsTrue old.honest → (m : ℕ) → is_in (headers_behind (table_of now.image (home_of c)) block) m ≡ true
        → is_in (headers_of was n) m ≡ true
    behind-listed honest m is =
        let here : is_in (headers_behind u block) m ≡ true =
        subst (λ (k : HomeFields). is_in (headers_behind (table_of now.image k) block) m ≡ true) same is in
        ap (λ (ns : List ℕ). is_in ns m) (headers-are s f block old for finds.holds honest)
        ∙ in-behind (n ∷ []) (hs honest) m (ap (λ (ns : List ℕ). is_in ns m) (sym (behind-is honest)) ∙ here)

    first-writes : WritesAtMost (Freeing h (with_file (store_on s old) n None) old) (1 + drop_cost block) old now 0
    first-writes =
        let here : WritesAtMost (Freeing h (with_file (store_on s old) n None) read) (drop_cost block) read now 0 =
        subst (λ (i : Image). WritesAtMost (Freeing h (with_file (store_of i h) n None) read) (drop_cost block) read now 0)
        finds.looked.image drops.writes in
        writes-then (freeing-more h (with_file (store_on s old) n None) (with_file (store_on s old) n None) old read finds.looked.honest
        (λ _. frees-none (with_file (store_on s old) n None))) read-writes here

    pub gone-behind : (r : Refusal) (new : Disk)
        → BreaksOff (home_of c) (store_on c now)
        (tail_cost (table_of now.image (home_of c)) (headers_behind (table_of now.image (home_of c)) block)) r now new
        → FailsToDelete false h f r old new
    gone-behind r new breaks =
        let here = subst (λ (k : HomeFields).
        BreaksOff k (store_of now.image k) (tail_cost (table_of now.image k) (headers_behind (table_of now.image k) block)) r now new)
        same breaks in
        breaks-fails (file_causes (store_on s old) f) (go_work n) (λ honest. no-file-cause s f block old for finds.holds honest)
        (gone-moment h n old) (breaks-within cost-behind (breaks-then frees-now first-writes here))

    pub deletes-file : (new : Disk) → DropsBehind (home_of c) block now new → Deletes h f old new
    deletes-file new behind =
        let here : DropsBehind h block now new = subst (λ (k : HomeFields). DropsBehind k block now new) same behind in
        let wrote = writes-within cost-behind
        (writes-then (freeing-more h (with_file (store_on s old) n None) (store_of now.image h) old now
        (drops.writes.went.honest ∙ finds.looked.honest) frees-now) first-writes here.writes) in
        record {
          no_cause = λ honest. no-file-cause s f block old for finds.holds honest;
          makes = λ honest.
              here.store (drops.writes.went.honest ∙ finds.looked.honest ∙ honest)
              ∙ ap (without_headers (store_of now.image h) u) (behind-is honest)
              ∙ ap (λ (bs : List ℕ). with_more_free (without_slots (store_of now.image h) (hs honest)) (length bs)) (blocks-behind honest)
              ∙ ap (λ (x : Store). with_more_free (without_slots x (hs honest)) (length (blocks_by was (hs honest)))) (store-now honest)
              ∙ gone-store honest;
          allots = λ honest.
              let sure : IsTrue now.honest = drops.writes.went.honest ∙ finds.looked.honest ∙ honest in
              loses-file honest new.image (here.loses sure) (here.blocks sure);
          writes = record {
            transfers = wrote.transfers;
            went = went_weaker (Freeing h (with_file (store_on s old) n None) old) (Meanwhile (go_work n) h old) (gone-moment h n old)
                wrote.went;
            few = wrote.few;
          };
        }
