-- Headers behind one in hand that go, one after another.
use Rattle.std.proofs.Common.{◌≡◌, ◌≢◌, ◌+◌, ◌*◌, ◌<◌, ◌≤◌, ℕ, true, false, IsTrue, List, [], ◌∷◌, None, length, refl, sym, ap, subst, ◌∙◌}
use Rattle.std.proofs.Common.{arith}
use Rattle.std.proofs.lemmas.List.{length-append}
use Rattle.std.proofs.lemmas.List.Sums.{sum_by-cons}
use Rattle.f11_dev.specs.Disk.{Disk}
use Rattle.f11_dev.specs.Image.{Image, IsImage}
use Rattle.f11_dev.specs.Looked.{Looked}
use Rattle.f11_dev.proofs.WentLemmas.{went_looked, went_within}
use Rattle.f11_header.specs.Header.{holds_header}
use Rattle.f11_header.specs.Writing.{dead_header}
use Rattle.f11_home.specs.Home.{HomeFields}
use Rattle.f11_map.specs.HeaderBlock.{segment_number, link_of, blocks_named}
use Rattle.f11_index.specs.IndexFile.{index_of}
use Rattle.f11_index.specs.Table.{Table, table_of, IsLive}
use Rattle.f11_index.proofs.HeadersLemmas.{live-some}
use Rattle.f11_index.proofs.SegmentLemmas.{table-bytes}
use Rattle.f11_chain.specs.Calls.{table, IsNextOf, ReadsNext, FindsLast, FindsWrongLink, FailsToReadNext}
use Rattle.f11_chain.specs.FileHeaders.{blocks_by}
use Rattle.f11_chain.specs.declared.fault.ChainFault.{ChainFault}
use Rattle.f11_chain.specs.declared.fault.ChainFault.TheVariants as chain
use Rattle.f11_chain.proofs.AlongLemmas.{HoldsHeader-live}
use Rattle.f11_store.specs.Changes.{is_in, with_file, without_slots}
use Rattle.f11_store.specs.Refusal.{refusal_number}
use Rattle.f11_store.specs.Store.{Store}
use Rattle.f11_store.specs.declared.refusals.Refusal.{Refusal}
use Rattle.f11_volume.specs.Contents.{pointer_count}
use Rattle.f11_volume.specs.Sound.{HasSoundVolume}
use Rattle.f11_volume.specs.Volume.{Volume, volume_of}
use Rattle.f11_writes.specs.OtherSlots.{KeepsOtherSlots}
use Rattle.f11_image_store.specs.Allocation.{FreesBlocks, Kills, LosesHeaders}
use Rattle.f11_files.specs.Answers.{WritesAtMost, refusal_for}
use Rattle.f11_files.specs.Removing.Drops.{BreaksOff, MayDrop, DropsHeader, DropsBehind, HangsBehind, headers_behind, without_header}
use Rattle.f11_files.specs.Removing.Drops.{without_headers, drop_cost, tail_cost}
use Rattle.f11_image_store.specs.Freeing.{FreesMore, Freeing}
use Rattle.f11_store.specs.Pieces.{with_more_free}
use Rattle.f11_image_store.specs.FileLaws.{pointers_in}
use Rattle.f11_image_store.specs.SlotLaws.{with_use, KeepsOtherBlocks}
use Rattle.f11_image_store.specs.StoreOf.{store_of}
use Rattle.f11_files.specs.Structure.{index_in, home_of, store_on, IsStructureFor, StaysFor}
use Rattle.f11_files.specs.declared.structure.Structure.{Structure}
use Rattle.f11_image_store.proofs.FreeingLemmas.{frees-slot, frees-none, frees-then, frees-blocks, freeing-more}
use Rattle.f11_files.proofs.Removing.Drop.{drop-store}
use Rattle.f11_files.proofs.Finding.First.{table-of}
use Rattle.f11_files.proofs.Removing.Freeing.{writes-then, writes-within, writes-none, breaks-then, breaks-within, stays-for}
use Rattle.f11_image_store.proofs.InstanceLemmas.{with_file-same}
use Rattle.f11_files.proofs.Removing.Kill.{KillsAlike, in_use-place, kills-same, kills-then, kills-first}
use Rattle.f11_files.proofs.Removing.Loss.{LosesAlike, in-behind, in-first, loses-same, loses-then, loses-all, loses-first}
use Rattle.f11_files.proofs.Finding.Named.{file-stored}
use Rattle.f11_files.proofs.Opening.Kept.{looked-for}
use Rattle.f11_image_store.proofs.StoreLemmas.{file-at}
use Rattle.f11_files.proofs.Removing.Behind.{behind-none, behind-some, hangs-are, hangs-kept, hangs-blocks, hangs-pointers, late-header}

-- So far headers behind `from` went, up to the one in the block. The others hang behind that, and with them gone the store is that of the
-- end.
pub record Dropping (s c : Structure) (from block : List ℕ) (old now : Disk) : Type 0 where
  pub is_for : IsStructureFor c now
  pub home : home_of c ≡ home_of s
  pub holds : IsTrue (holds_header block)
  pub spent : ℕ
  pub writes : WritesAtMost (Freeing (home_of s) (store_on s old) old) spent old now 0
  pub few :
      IsTrue old.honest →
      spent + tail_cost (table_of now.image (home_of s)) (headers_behind (table_of now.image (home_of s)) block)
      ≤ tail_cost (table_of old.image (home_of s)) (headers_behind (table_of old.image (home_of s)) from)
  pub listed :
      IsTrue old.honest →
      (m : ℕ) → is_in (headers_behind (table_of now.image (home_of s)) block) m ≡ true
      → is_in (headers_behind (table_of old.image (home_of s)) from) m ≡ true
  pub frees : IsTrue old.honest → FreesMore (store_on s old) (store_of now.image (home_of s))
  pub loses :
      IsTrue old.honest →
      LosesAlike (headers_behind (table_of old.image (home_of s)) from) (headers_behind (table_of now.image (home_of s)) block)
      (volume_of old.image (home_of s)) (volume_of now.image (home_of s))
  pub kills :
      IsTrue old.honest →
      KillsAlike (headers_behind (table_of old.image (home_of s)) from) (headers_behind (table_of now.image (home_of s)) block)
      (table_of old.image (home_of s)) (table_of now.image (home_of s))
  pub store :
      IsTrue old.honest →
      without_headers (store_of now.image (home_of s)) (table_of now.image (home_of s))
      (headers_behind (table_of now.image (home_of s)) block)
      ≡ without_headers (store_on s old) (table_of old.image (home_of s)) (headers_behind (table_of old.image (home_of s)) from)
  pub hangs : IsTrue old.honest → HangsBehind (table_of now.image (home_of s)) block (headers_behind (table_of now.image (home_of s)) block)

pub dropping-none : (s : Structure) (from : List ℕ) (old : Disk) → IsStructureFor s old → IsTrue (holds_header from)
    → (IsTrue old.honest → HangsBehind (table_of old.image (home_of s)) from (headers_behind (table_of old.image (home_of s)) from))
    → Dropping s s from from old old
dropping-none s from old for holds hangs = record {
  is_for = for;
  home = refl;
  holds = holds;
  spent = 0;
  writes = writes-none _ 0 old;
  few = λ _. omega arith;
  listed = λ _ m is. is;
  frees = λ _. frees-none (store_on s old);
  loses = λ _. loses-same (headers_behind (table_of old.image (home_of s)) from) (volume_of old.image (home_of s));
  kills = λ _. kills-same (headers_behind (table_of old.image (home_of s)) from) (table_of old.image (home_of s));
  store = λ _. refl;
  hangs = hangs;
}

module _ (s c : Structure) (from block : List ℕ) (old now : Disk) (d : Dropping s c from block old now) where
  abbrev h : HomeFields
  h = home_of s

  abbrev u : Table
  u = table_of now.image h

  abbrev most : ℕ
  most = tail_cost (table_of old.image h) (headers_behind (table_of old.image h) from)

  now-honest : IsTrue old.honest → IsTrue now.honest
  now-honest honest = d.writes.went.honest ∙ honest

  same-table : IsTrue now.honest → table (index_in c) now ≡ u
  same-table honest = table-of c now d.is_for honest ∙ ap (table_of now.image) d.home

  sound-now : IsTrue old.honest → HasSoundVolume now.image h
  sound-now honest = subst (HasSoundVolume now.image) d.home (d.is_for.sound (now-honest honest))

  -- what only reads costs no more than one header
  more-reads : (reads faults : ℕ) (new : Disk) → reads ≤ 1 → (IsTrue old.honest → (link_of block).number ≢ 0) → Looked now new reads faults
      → WritesAtMost (Freeing h (store_on s old) old) most old new faults
  more-reads reads faults new few some looked =
      writes-within (λ honest. go (headers_behind u block) (d.few honest) (d.hangs honest) honest)
      (writes-then (λ image is. is) d.writes
      (record {
        transfers = 1;
        went = went_within _ (went_looked (Freeing h (store_on s old) old) looked) few;
        few = λ _. omega arith;
      }))
    where
      go : (ns : List ℕ) → d.spent + tail_cost u ns ≤ most → HangsBehind u block ns → IsTrue old.honest → d.spent + 1 ≤ most
      go [] cost none honest = absurd (some honest none)
      go (n ∷ ns) cost hangs honest = omega (arith, cost)

  -- the last one is in hand
  module _ (after : List ℕ) (new : Disk) (last : FindsLast block after now new) (honest : IsTrue old.honest) where
    abbrev hs : List ℕ
    hs = headers_behind (table_of old.image h) from

    all-killed : KillsAlike hs [] (table_of old.image h) u
    all-killed = subst (λ (ns : List ℕ). KillsAlike hs ns (table_of old.image h) u) (behind-none u block last.no_link) (d.kills honest)

    all-lost : LosesHeaders hs (volume_of old.image h) (volume_of now.image h)
    unfolding volume_of
    all-lost =
        let was : Volume = volume_of old.image h in
        let is : Volume = volume_of now.image h in
        loses-all hs was is (subst (λ (ns : List ℕ). LosesAlike hs ns was is) (behind-none u block last.no_link) (d.loses honest))
        (λ n among. (all-killed.killed n among refl).kills)

  pub dropped-all : (after : List ℕ) (new : Disk) → FindsLast block after now new → DropsBehind h from old new
  dropped-all after new last = subst (DropsBehind h from old) (sym last.disk_stays) (record {
    store = λ honest.
        let none : headers_behind u block ≡ [] = behind-none u block last.no_link in
        let sum : (store_of now.image h).free ≡ (store_of now.image h).free + 0 = omega arith in
        ap (λ (free : ℕ). record (store_of now.image h) { free = free }) sum ∙ ap (without_headers (store_of now.image h) u) (sym none)
        ∙ d.store honest;
    loses = all-lost after new last;
    blocks = λ honest. (all-killed after new last honest).stays;
    writes = writes-within (λ honest. let few = d.few honest in omega (arith, few)) d.writes;
  })

  pub dropped-stays : (after : List ℕ) (new : Disk) → FindsLast block after now new → StaysFor false s c new
  dropped-stays after new last =
      subst (StaysFor false s c) (sym last.disk_stays)
      (record { home = d.home; lies = λ _. d.is_for.lies; sound = d.is_for.sound; keeps = λ _. d.is_for.keeps })

  -- the next one wasn't to be had
  pub no-next : (fault : ChainFault) (new : Disk) → ¬ (fault ≡ chain.EndOfFile)
      → (fault ≡ chain.Damaged → FindsWrongLink (index_in c) block now new)
      → (fault ≡ chain.DeviceFault → FailsToReadNext block now new) → BreaksOff h (store_on s old) most (refusal_for fault) old new
  no-next chain.EndOfFile new never damaged failed = absurd (never refl)
  no-next chain.Damaged new never damaged failed = record {
    fatal = refl;
    undamaged = λ honest _. go (headers_behind u block) (d.hangs honest) honest;
    writes = more-reads _ 0 new (omega arith) (λ _. (damaged refl).some_link) (damaged refl).looked;
  }
    where
      go : (ns : List ℕ) → HangsBehind u block ns → IsTrue old.honest → ⊥
      go [] none honest = (damaged refl).some_link none
      go (n ∷ ns) hangs honest =
          (damaged refl).wrong (now-honest honest) n
          (subst (λ (t : Table). IsNextOf t block n) (sym (same-table (now-honest honest))) hangs.0)
  no-next chain.DeviceFault new never damaged failed = record {
    fatal = refl;
    undamaged = λ _ is. let no : 19 ≡ 20 = ap refusal_number is in omega (arith, no);
    writes = more-reads _ 1 new (omega arith) (λ _. (failed refl).some_link) (failed refl).looked;
  }

  -- it was read
  module _ (n : ℕ) (following : List ℕ) (read : Disk) (reads : ReadsNext (index_in c) n block following now read) where
    abbrev rest : List ℕ
    rest = headers_behind u following

    pub read-for : IsStructureFor c read
    read-for = looked-for c now read 1 0 d.is_for reads.looked

    read-home : (P : Image → HomeFields → Type 0) → P now.image h → P read.image (home_of c)
    read-home P is = subst (λ (k : HomeFields). P read.image k) (sym d.home) (subst (λ (i : Image). P i h) (sym reads.looked.image) is)

    module _ (honest : IsTrue old.honest) where
      header-is : following ≡ u.header n
      header-is = reads.header.block_is (now-honest honest) ∙ ap (λ (t : Table). t.header n) (same-table (now-honest honest))

      live : IsLive u n
      live =
          subst (λ (t : Table). IsLive t n) (same-table (now-honest honest))
          (HoldsHeader-live (index_in c) n following now reads.header (now-honest honest))

      segment : segment_number (u.header n) ≡ segment_number block + 1
      segment = ap segment_number (sym header-is) ∙ reads.segment

      list : headers_behind u block ≡ n ∷ rest
      list =
          behind-some u block n reads.number (live-some live) reads.not_last segment
          ∙ ap (λ (b : List ℕ). n ∷ headers_behind u b) (sym header-is)

      all-hang : HangsBehind u block (n ∷ rest)
      all-hang = subst (HangsBehind u block) list (d.hangs honest)

      may : MayDrop u n
      may = record { late = late-header now.image h n (sound-now honest) live (omega (arith, segment)); unlinked = all-hang.1 }

      no-file : with_file (store_of now.image h) n None ≡ store_of now.image h
      no-file = with_file-same (store_of now.image h) n None
          (file-stored now.image h n ∙ file-at now.image u n None (λ file. let first = file.first in absurd (omega (arith, first, segment)))
          (λ _. refl))

      cost : d.spent + (3 + 4 * pointers_in following) + tail_cost u rest ≤ most
      cost =
          let few = d.few honest in
          let counted = ap (λ (ns : List ℕ). tail_cost u ns) list in
          let sum = sum_by-cons (pointer_count u) n rest in
          let own : pointer_count u n ≡ pointers_in following = ap pointers_in (sym header-is) in
          omega (arith, few, counted, sum, own)

    pub next-listed : IsTrue old.honest → is_in (headers_behind (table_of old.image h) from) n ≡ true
    next-listed honest = d.listed honest n (ap (λ (ns : List ℕ). is_in ns n) (list honest) ∙ in-first n rest)

    pub may-next : IsTrue read.honest → MayDrop (table_of read.image (home_of c)) n
    may-next honest = read-home (λ i k. MayDrop (table_of i k) n) (may (sym d.writes.went.honest ∙ sym reads.looked.honest ∙ honest))

    -- the images that stand while it goes
    read-frees : IsTrue old.honest → FreesMore (store_on s old) (with_file (store_of read.image (home_of c)) n None)
    read-frees honest =
        read-home (λ i k. FreesMore (store_on s old) (with_file (store_of i k) n None))
        (subst (FreesMore (store_on s old)) (sym (no-file honest)) (d.frees honest))

    so-far : WritesAtMost (Freeing h (store_on s old) old) (d.spent + 1) old read 0
    so-far =
        writes-then (λ image is. is) d.writes
        (record { transfers = 1; went = went_looked (Freeing h (store_on s old) old) reads.looked; few = λ _. omega arith })

    pub next-breaks : (r : Refusal) (new : Disk)
        → BreaksOff (home_of c) (with_file (store_on c read) n None) (drop_cost following) r read new
        → BreaksOff h (store_on s old) most r old new
    next-breaks r new breaks =
        breaks-within (λ honest. let few = cost honest in omega (arith, few))
        (breaks-then read-frees so-far
        (subst (λ (k : HomeFields). BreaksOff k (with_file (store_of read.image (home_of c)) n None) (drop_cost following) r read new)
        d.home breaks))

    module _ (c' : Structure) (new : Disk) (drops : DropsHeader (home_of c) n following read new) (stays : StaysFor false c c' new)
        (is_image : IsImage new.image) where
      abbrev v : Table
      v = table_of new.image h

      read-honest : IsTrue old.honest → IsTrue read.honest
      read-honest honest = reads.looked.honest ∙ now-honest honest

      unused : IsTrue old.honest → v.in_use n ≡ false
      unused honest = ap (λ (k : HomeFields). (table_of new.image k).in_use n) (sym d.home) ∙ drops.unused (read-honest honest)

      others : IsTrue old.honest → KeepsOtherSlots n u v
      others honest =
          subst (λ (i : Image). KeepsOtherSlots n (table_of i h) v) reads.looked.image
          (subst (λ (k : HomeFields). KeepsOtherSlots n (table_of read.image k) (table_of new.image k)) d.home
          (drops.others (read-honest honest)))

      gone : IsTrue old.honest → ¬ IsLive v n
      gone honest is = let used = sym (unused honest) ∙ is.in_use in cc

      later : IsTrue old.honest → (m : ℕ) → IsLive u m → segment_number (u.header n) < segment_number (u.header m) → m ≢ n
      later honest m is more same = let there = ap (λ (k : ℕ). segment_number (u.header k)) same in omega (arith, there, more)

      hangs-now : IsTrue old.honest → HangsBehind v following rest
      hangs-now honest =
          subst (λ (b : List ℕ). HangsBehind v b rest) (sym (header-is honest))
          (hangs-kept u v n (segment_number (u.header n)) (others honest) (later honest) (gone honest) (u.header n) rest (omega arith)
          (all-hang honest).2)

      rest-is : IsTrue old.honest → headers_behind v following ≡ rest
      rest-is honest = hangs-are v following rest (table-bytes new.image (index_of new.image h) is_image) (hangs-now honest)

      store-was : IsTrue old.honest → store_of new.image h ≡ without_header (store_of now.image h) n (length (blocks_named following))
      store-was honest =
          subst (λ (k : HomeFields). store_of new.image k ≡ without_header (store_of read.image k) n (length (blocks_named following)))
          d.home (drops.store (read-honest honest))
          ∙ ap (λ (i : Image). without_header (store_of i h) n (length (blocks_named following))) reads.looked.image

      blocks-stay : IsTrue old.honest → blocks_by v rest ≡ blocks_by u rest
      blocks-stay honest =
          hangs-blocks u v n (segment_number (u.header n)) (others honest) (later honest) (u.header n) rest (omega arith)
          (all-hang honest).2

      blocks-freed : IsTrue old.honest → FreesBlocks (blocks_named (u.header n)) (volume_of now.image h) (volume_of new.image h)
      blocks-freed honest =
          subst (λ (b : List ℕ). FreesBlocks (blocks_named b) (volume_of now.image h) (volume_of new.image h)) (header-is honest)
          (subst (λ (i : Image). FreesBlocks (blocks_named following) (volume_of i h) (volume_of new.image h)) reads.looked.image
          (subst (λ (k : HomeFields). FreesBlocks (blocks_named following) (volume_of read.image k) (volume_of new.image k)) d.home
          (drops.frees (read-honest honest))))

      loses-one : IsTrue old.honest → LosesAlike (n ∷ rest) rest (volume_of now.image h) (volume_of new.image h)
      unfolding volume_of
      loses-one honest =
          loses-first n rest (volume_of now.image h) (volume_of new.image h) (others honest) (unused honest) (blocks-freed honest)
          (blocks-stay honest)

      loses-now : IsTrue old.honest
          → LosesAlike (headers_behind (table_of old.image h) from) (headers_behind v following) (volume_of old.image h)
          (volume_of new.image h)
      loses-now honest =
          let hs : List ℕ = headers_behind (table_of old.image h) from in
          loses-then hs (n ∷ rest) (headers_behind v following) (volume_of old.image h) (volume_of now.image h) (volume_of new.image h)
          (subst (λ (ns : List ℕ). LosesAlike hs ns (volume_of old.image h) (volume_of now.image h)) (list honest) (d.loses honest))
          (subst (λ (ns : List ℕ). LosesAlike (n ∷ rest) ns (volume_of now.image h) (volume_of new.image h)) (sym (rest-is honest))
          (loses-one honest))

      others-stay : IsTrue old.honest → KeepsOtherBlocks n u v
      others-stay honest =
          subst (λ (i : Image). KeepsOtherBlocks n (table_of i h) v) reads.looked.image
          (subst (λ (k : HomeFields). KeepsOtherBlocks n (table_of read.image k) (table_of new.image k)) d.home
          (drops.blocks (read-honest honest)))

      killed-now : IsTrue old.honest → Kills n u v
      killed-now honest =
          ap (λ (k : HomeFields). (table_of new.image k).header n) (sym d.home) ∙ drops.dead (read-honest honest)
          ∙ ap dead_header (header-is honest)

      kills-one : IsTrue old.honest → KillsAlike (n ∷ rest) rest u v
      kills-one honest =
          let place = in_use-place now.image h n (live honest).in_use in
          kills-first n rest u v (others-stay honest) (record { some = place.0; within = place.1; kills = killed-now honest })

      kills-now : IsTrue old.honest
          → KillsAlike (headers_behind (table_of old.image h) from) (headers_behind v following) (table_of old.image h) v
      kills-now honest =
          let hs : List ℕ = headers_behind (table_of old.image h) from in
          kills-then hs (n ∷ rest) (headers_behind v following) (table_of old.image h) u v
          (subst (λ (ns : List ℕ). KillsAlike hs ns (table_of old.image h) u) (list honest) (d.kills honest))
          (subst (λ (ns : List ℕ). KillsAlike (n ∷ rest) ns u v) (sym (rest-is honest)) (kills-one honest))

      store-now : IsTrue old.honest
          → without_headers (store_of new.image h) v (headers_behind v following) ≡ without_headers (store_of now.image h) u
          (headers_behind u block)
      store-now honest =
          let ns : List ℕ = rest in
          let s1 : Store = store_of now.image h in
          let named : ℕ = length (blocks_named following) in
          let more : ℕ = length (blocks_by u ns) in
          let counted : named + more ≡ length (blocks_by u (n ∷ ns)) =
          ap (λ (b : List ℕ). length (blocks_named b) + more) (header-is honest)
          ∙ sym (length-append (blocks_named (u.header n)) (blocks_by u ns)) in
          ap (without_headers (store_of new.image h) v) (rest-is honest)
          ∙ ap (λ (bs : List ℕ). with_more_free (without_slots (store_of new.image h) ns) (length bs)) (blocks-stay honest)
          ∙ ap (λ (x : Store). with_more_free (without_slots x ns) more) (store-was honest)
          ∙ drop-store s1 n named more ns
          ∙ ap (λ (x : Store). with_more_free (without_slots x (n ∷ ns)) (named + more)) (no-file honest)
          ∙ ap (λ (k : ℕ). with_more_free (without_slots s1 (n ∷ ns)) k) counted
          ∙ sym (ap (without_headers s1 u) (list honest))

      cost-now : IsTrue old.honest → d.spent + (3 + 4 * pointers_in following) + tail_cost v (headers_behind v following) ≤ most
      cost-now honest =
          let cost-was = cost honest in
          let same = ap (λ (ns : List ℕ). tail_cost v ns) (rest-is honest) in
          let pointers = hangs-pointers u v n (segment_number (u.header n)) (others honest) (later honest) (u.header n) rest (omega arith)
          (all-hang honest).2 in
          omega (arith, cost-was, same, pointers)

      listed-now : IsTrue old.honest → (m : ℕ) → is_in (headers_behind v following) m ≡ true
          → is_in (headers_behind (table_of old.image h) from) m ≡ true
      listed-now honest m is =
          d.listed honest m
          (ap (λ (ns : List ℕ). is_in ns m) (list honest)
          ∙ in-behind (n ∷ []) rest m (ap (λ (ns : List ℕ). is_in ns m) (sym (rest-is honest)) ∙ is))

      frees-now : IsTrue old.honest → FreesMore (store_on s old) (store_of new.image h)
      frees-now honest =
          frees-then (store_on s old) (store_of now.image h) (store_of new.image h) (d.frees honest)
          (subst (FreesMore (store_of now.image h))
          (sym (store-was honest ∙ ap (λ (x : Store). with_more_free (with_use x n false) (length (blocks_named following)))
          (no-file honest)))
          (frees-then (store_of now.image h) (with_use (store_of now.image h) n false)
          (with_more_free (with_use (store_of now.image h) n false) (length (blocks_named following)))
          (frees-slot (store_of now.image h) n) (frees-blocks (with_use (store_of now.image h) n false) (length (blocks_named following)))))

      pub dropping-next : Dropping s c' from following old new
      dropping-next = record {
        is_for = stays-for stays;
        home = stays.home ∙ d.home;
        holds = reads.header.valid.holds;
        spent = d.spent + (3 + 4 * pointers_in following);
        writes = writes-within (λ _. omega arith) (
            writes-then (freeing-more h (store_on s old) (with_file (store_of read.image h) n None) old read
            (reads.looked.honest ∙ d.writes.went.honest)
            (λ honest. subst (λ (k : HomeFields). FreesMore (store_on s old) (with_file (store_of read.image k) n None)) d.home
            (read-frees honest)))
            so-far (subst (λ (k : HomeFields). WritesAtMost (Freeing k (with_file (store_of read.image k) n None) read)
            (drop_cost following) read new 0) d.home drops.writes)
            );
        few = cost-now;
        listed = listed-now;
        frees = frees-now;
        loses = loses-now;
        kills = kills-now;
        store = λ honest. store-now honest ∙ d.store honest;
        hangs = λ honest. subst (HangsBehind v following) (sym (rest-is honest)) (hangs-now honest);
      }
