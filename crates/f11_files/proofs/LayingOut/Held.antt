-- A file that is laid out once its headers are in hand: the run is marked used, its blocks come, and then the mark is set.
use Rattle.std.proofs.Common.{◌≡◌, ◌≢◌, ◌+◌, ◌≤◌, ℕ, Bool, false, cond, IsTrue, List, length, Option, Some, None, unwrap_or, inl, inr, sym}
use Rattle.std.proofs.Common.{ap, subst, ◌∙◌, arith}
use Rattle.std.proofs.lemmas.Bool.{cases_eq, false≢true}
use Rattle.f11_bits.specs.Bitmap.{Bitmap}
use Rattle.f11_chain.specs.declared.blocks.FileEnd.{FileEnd}
use Rattle.f11_chain.specs.Calls.{HoldsHeader}
use Rattle.f11_dev.specs.Disk.{Disk}
use Rattle.f11_dev.specs.Image.{IsImage}
use Rattle.f11_home.specs.Home.{HomeFields}
use Rattle.f11_index.specs.Headers.{IsLastOf}
use Rattle.f11_index.specs.IndexFile.{Index, is_in_use}
use Rattle.f11_index.specs.Table.{Table, table_of, first, IsFile}
use Rattle.f11_map.specs.HeaderBlock.{link_of, segment_number}
use Rattle.f11_store.specs.Causes.{first_of}
use Rattle.f11_store.specs.Causes as causes
use Rattle.f11_store.specs.File.{File, no_file, run_pointers}
use Rattle.f11_store.specs.Pieces.{file_numbered, with_more_free, MayGrowAs}
use Rattle.f11_store.specs.Store.{Store, file_named}
use Rattle.f11_store.specs.declared.files.FileId.{FileId}
use Rattle.f11_store.specs.declared.refusals.Refusal.TheVariants.{NoSuchFile}
use Rattle.f11_store.proofs.LayingLemmas.{has-run-room}
use Rattle.f11_store.proofs.PieceLemmas.{has-places}
use Rattle.f11_files.specs.Extending.Runs.{IsTailOf}
use Rattle.f11_files.specs.Extending.Take.{with_fewer_free}
use Rattle.f11_files.specs.Extending.Tail.{HoldsLast}
use Rattle.f11_files.specs.LayingOut.Take.{TakesWholeRun}
use Rattle.f11_files.specs.LayingOut.Whole.{HoldsRunRoom}
use Rattle.f11_files.specs.Structure.{index_in, bitmap_in, home_of, store_on, IsStructureFor, StaysFor}
use Rattle.f11_files.specs.declared.structure.Structure.{Structure}
use Rattle.f11_files.specs.declared.extend.tail.Tail.{Tail}
use Rattle.f11_image_store.specs.StoreOf.{store_of}
use Rattle.f11_files.proofs.Extending.Clear.{stored}
use Rattle.f11_files.proofs.Extending.TakenRun.{fewer-more}
use Rattle.f11_files.proofs.Extending.Written.{are-none}
use Rattle.f11_files.proofs.Finding.First.{table-of}
use Rattle.f11_files.proofs.Finding.Named.{block-is, found-named, held-named, is-file}
use Rattle.f11_files.proofs.LayingOut.Lay.{file-bounds}
use Rattle.f11_files.proofs.Removing.Freeing.{stays-for}

module _ (s : Structure) (f : FileId) (n : ℕ) (end : FileEnd) (was last : List ℕ) (old : Disk) (for : IsStructureFor s old)
    (own : 4 ≤ f.number) (room : HoldsRunRoom s f n end was last old) (is_image : IsImage old.image) where
  abbrev home : HomeFields
  home = home_of s

  abbrev st : Store
  st = store_on s old

  abbrev k : ℕ
  k = f.number

  abbrev named : File
  named = file_named st f

  module _ (honest : IsTrue old.honest) where
    pub is-named : st.file k ≡ Some named
    is-named = stored s f was old for room.ends.holds honest ∙ ap Some (sym (held-named s f was old for room.ends.holds honest))

    pub numbered : file_numbered st k ≡ named
    numbered = ap (λ (o : Option File). unwrap_or o no_file) is-named

    there : IsFile (table_of old.image home) k
    there = subst (λ (t : Table). IsFile t k) (table-of s old for honest) (is-file s f was old for room.ends.holds honest).file

    no-run-cause : first_of (causes.contiguous_causes st named n) ≡ None
    no-run-cause =
        ap (λ (b : Bool). cond b (Some NoSuchFile) (first_of (causes.contiguous_causes st named n)))
        (sym (found-named s f old for honest (is-file s f was old for room.ends.holds honest)).0)
        ∙ room.no_cause honest

    pub few-blocks : length named.blocks ≤ 0
    few-blocks = (has-run-room st named n no-run-cause).1

    pub enough-free : n ≤ st.free
    enough-free = (has-run-room st named n no-run-cause).0.blocks

    pub no-pointers : (file_numbered st k).pointers ≡ 0
    no-pointers =
        let bounds = file-bounds home old.image k is_image own there in
        let none = few-blocks in
        let same = ap (λ (g : File). length g.blocks) numbered in
        omega (arith, bounds.0, none, same)

    pub may-lay : MayGrowAs st k n (run_pointers n)
    may-lay =
        record {
          places = has-places st k n (run_pointers n) named is-named (has-run-room st named n no-run-cause).0;
          within = λ is.
              absurd (false≢true (sym (are-none own) ∙ is));
        }

  -- the file's last header is in hand
  module _ (tail : Tail) (of : IsTailOf f was end.number last tail) where
    alone-last : (link_of was).number ≡ 0 → HoldsLast s tail old
    alone-last none = let is = of.alone none in record {
      header = subst (λ (m : ℕ). HoldsHeader (index_in s) m tail.block old) (sym is.0)
          (subst (λ (b : List ℕ). HoldsHeader (index_in s) k b old) (sym is.1) room.ends.holds.header);
      no_link = ap (λ (b : List ℕ). (link_of b).number) is.1 ∙ none;
      few = let zero = room.ends.holds.is_first.first in let same = ap (λ (b : List ℕ). segment_number b) is.1 in omega (arith, zero, same);
      is_last = λ honest.
          let t : Table = table_of old.image home in
          let here : IsLastOf t k k = record {
            of = first (there honest);
            no_link = ap (λ (b : List ℕ). (link_of b).number) (sym (block-is s f was old for room.ends.holds honest)) ∙ none;
          } in
          subst (λ (g : FileId). IsLastOf t g.number tail.number) (sym of.file_is) (subst (λ (m : ℕ). IsLastOf t k m) (sym is.0) here);
    }

    other-last : (link_of was).number ≢ 0 → HoldsLast s tail old
    other-last some = let is = of.other some in record {
      header = subst (λ (m : ℕ). HoldsHeader (index_in s) m tail.block old) (sym is.0)
          (subst (λ (b : List ℕ). HoldsHeader (index_in s) end.number b old) (sym is.1) room.ends.header);
      no_link = ap (λ (b : List ℕ). (link_of b).number) is.1 ∙ room.ends.no_link;
      few = let same = ap (λ (b : List ℕ). segment_number b) is.1 in omega (arith, room.ends.segment, room.ends.few, same);
      is_last = λ honest.
          let t : Table = table_of old.image home in
          subst (λ (g : FileId). IsLastOf t g.number tail.number) (sym of.file_is)
          (subst (λ (m : ℕ). IsLastOf t k m) (sym is.0)
          (subst (λ (u : Table). IsLastOf u k end.number) (table-of s old for honest) (room.ends.is_last honest)));
    }

    holds-tail : HoldsLast s tail old
    holds-tail = elim (cases_eq (link_of was).number 0) [ inl none ↦ alone-last none | inr some ↦ other-last some ]

    -- the run is marked used
    module _ (t : Structure) (lbn : ℕ) (mid : Disk) (takes : TakesWholeRun s t n lbn old mid) (stays : StaysFor false s t mid) where
      was-honest : IsTrue mid.honest → IsTrue old.honest
      was-honest honest = sym takes.writes.went.honest ∙ honest

      pub taken-for : IsStructureFor t mid
      taken-for = stays-for stays

      pub taken-within : lbn + n ≤ (bitmap_in t).size
      taken-within = subst (λ (b : Bitmap). lbn + n ≤ b.size) (sym takes.bitmap) takes.within

      tables : IsTrue old.honest → table_of mid.image home ≡ table_of old.image home
      tables honest = (takes.keeps honest).index_file.table

      pub taken-last : HoldsLast t tail mid
      taken-last = record {
        header = record {
          in_use = ap (λ (x : Index). is_in_use x tail.number) takes.index ∙ holds-tail.header.in_use;
          valid = holds-tail.header.valid;
          block_is = λ honest.
              let before = was-honest honest in
              holds-tail.header.block_is before
              ∙ ap (λ (x : Table). x.header tail.number)
              (table-of s old for before ∙ sym (tables before) ∙ ap (table_of mid.image) (sym stays.home)
              ∙ sym (table-of t mid taken-for honest));
        };
        no_link = holds-tail.no_link;
        few = holds-tail.few;
        is_last = λ honest.
            let before = was-honest honest in
            subst (λ (h : HomeFields). IsLastOf (table_of mid.image h) tail.file.number tail.number) (sym stays.home)
            (subst (λ (x : Table). IsLastOf x tail.file.number tail.number) (sym (tables before)) (holds-tail.is_last before));
      }

      store-taken : IsTrue old.honest → store_on t mid ≡ with_fewer_free st n
      store-taken honest = ap (store_of mid.image) stays.home ∙ takes.store honest

      -- with the run free it is the store that was
      pub taken-free : IsTrue old.honest → with_more_free (store_on t mid) n ≡ st
      taken-free honest = ap (λ (x : Store). with_more_free x n) (store-taken honest) ∙ fewer-more st n (enough-free honest)

      number : tail.file.number ≡ k
      number = ap (λ (g : FileId). g.number) of.file_is

      pub taken-empty : IsTrue mid.honest → (file_numbered (store_on t mid) tail.file.number).pointers ≡ 0
      taken-empty honest =
          let before = was-honest honest in
          ap (λ (j : ℕ). (file_numbered (store_on t mid) j).pointers) number
          ∙ ap (λ (x : Store). (file_numbered x k).pointers) (store-taken before) ∙ no-pointers before

      pub taken-may : IsTrue mid.honest → MayGrowAs (with_more_free (store_on t mid) n) tail.file.number n (run_pointers n)
      taken-may honest =
          let before = was-honest honest in
          subst (λ (x : Store). MayGrowAs x tail.file.number n (run_pointers n)) (sym (taken-free before))
          (subst (λ (j : ℕ). MayGrowAs st j n (run_pointers n)) (sym number) (may-lay before))
