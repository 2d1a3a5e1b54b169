-- The header that names the last block of a file that stays, found and cut off.
use Rattle.std.proofs.Common.{◌≡◌, ◌+◌, ◌-◌, ◌<◌, ◌≤◌, ℕ, suc, Bool, true, false, cond, min, IsTrue, List, [], ◌∷◌, length, take, Some}
use Rattle.std.proofs.Common.{None, option_map, inl, inr, eqb, leb, ap, subst, ◌∙◌, arith}
use Rattle.std.specs.List.{slice_get}
use Rattle.std.proofs.lemmas.Bool.{le-ltb}
use Rattle.std.proofs.lemmas.Option.{slice_get_within, slice_get-get_or}
use Rattle.f11_index.specs.Headers.{headers_of}
use Rattle.f11_dev.specs.Disk.{Disk}
use Rattle.f11_dev.specs.Image.{Image}
use Rattle.f11_dev.proofs.LookedLemmas.{looked_more, looked_within}
use Rattle.f11_header.specs.Fields.{HeaderFields, header_fields, map_area}
use Rattle.f11_header.specs.Header.{holds_header}
use Rattle.f11_header.proofs.HeaderFacts.{header_in-held}
use Rattle.f11_map.specs.HeaderBlock.{segment_number, link_of, blocks_named}
use Rattle.f11_index.specs.Table.{Table, table_in, table_of, IsFile, IsHeaderOf, first}
use Rattle.f11_chain.specs.Calls.{table, Seeks}
use Rattle.f11_chain.specs.FileHeaders.{blocks_by, blocks_before, file_blocks}
use Rattle.f11_chain.specs.declared.blocks.Place.{Place}
use Rattle.f11_chain.proofs.AlongLemmas.{holds-stays}
use Rattle.f11_map.specs.InHand.{CutsBlocks, SetsLink}
use Rattle.f11_map.specs.MapArea.{blocks_in, runs_of}
use Rattle.f11_map.specs.MapWriting.{cut_to}
use Rattle.f11_store.specs.Store.{no_id}
use Rattle.f11_store.specs.declared.files.FileId.{FileId}
use Rattle.f11_store.specs.declared.refusals.Refusal.TheVariants.{EndOfFile}
use Rattle.f11_writes.specs.Kept.{file_in}
use Rattle.f11_files.specs.Removing.Truncate.{CutsOff, FindsLastKept}
use Rattle.f11_files.specs.Finding.First.{FindsFile}
use Rattle.f11_files.specs.Structure.{index_in, home_of, IsStructureFor}
use Rattle.f11_files.specs.declared.structure.Structure.{Structure}
use Rattle.f11_image_store.proofs.FieldLemmas.{held-from}
use Rattle.f11_files.proofs.Finding.First.{table-of}
use Rattle.f11_files.proofs.Finding.Locate.{length-first}
use Rattle.f11_files.proofs.Finding.Named.{is-file, held-named}
use Rattle.f11_image_store.proofs.StoreLemmas.{seen-own}

-- pointers that are cut are no more than before
cut-few : (runs : List (ℕ × ℕ)) (blocks : ℕ) → length (cut_to runs blocks) ≤ length runs
cut-few [] blocks = omega arith
cut-few (run ∷ runs) blocks = go (eqb blocks 0) (leb blocks run.1) (cut-few runs (blocks - run.1))
  where
    go : (b c : Bool) → length (cut_to runs (blocks - run.1)) ≤ length runs
        → length (cond b [] (cond c ((run.0, blocks) ∷ []) (run ∷ cut_to runs (blocks - run.1)))) ≤ suc (length runs)
    go true c few = omega arith
    go false true few = omega arith
    go false false few = omega (arith, few)

pub cuts-off : (keep : ℕ) (old mid new : List ℕ) (none : FileId) → none ≡ no_id → IsTrue (holds_header old) → CutsBlocks old mid keep
    → SetsLink mid new none → CutsOff keep old new
unfolding segment_number link_of blocks_named
cuts-off keep old mid new none zero_is held cuts sets =
    let one = held-from mid (record (header_fields old) { map = map_area mid })
    (cuts.header.fields ∙ ap (option_map {T = HeaderFields} (λ h. record h { map = map_area mid })) (header_in-held old held)) in
    let two = held-from new (record (header_fields mid) { map = map_area new })
    (sets.header.fields ∙ ap (option_map {T = HeaderFields} (λ h. record h { map = map_area new })) (header_in-held mid one.0)) in
    let fields : header_fields new ≡ record (header_fields old) { map = map_area new } = two.1
    ∙ ap (λ (h : HeaderFields). record h { map = map_area new }) one.1 in
    record {
      holds = two.0;
      sum = sets.header.seals.sum;
      number = ap (λ (h : HeaderFields). h.number) fields;
      sequence = ap (λ (h : HeaderFields). h.sequence) fields;
      segment = sets.link.segment_stays ∙ cuts.rest.segment_stays;
      alike = record {
        owner_is = ap (λ (h : HeaderFields). h.owner) fields;
        protection_is = ap (λ (h : HeaderFields). h.protection) fields;
        characteristics_are = ap (λ (h : HeaderFields). h.characteristics) fields;
        ident_is = ap (λ (h : HeaderFields). h.ident) fields;
        ident_room_is = sets.header.ident ∙ cuts.header.ident;
        attributes_are = ap (λ (h : HeaderFields). h.attributes) fields;
      };
      no_link = sets.link.link_is ∙ ap (λ (l : FileId). record l { volume = 0 }) zero_is;
      blocks = ap blocks_in sets.pointers ∙ cuts.blocks;
      fewer =
          let same = ap (λ (rs : List (ℕ × ℕ)). length rs) (sets.pointers ∙ cuts.pointers) in
          let few = cut-few (runs_of (map_area old)) keep in
          omega (arith, same, few);
    }

module _ (s : Structure) (f : FileId) (block : List ℕ) (old now : Disk) (for : IsStructureFor s old) (own : 4 ≤ f.number)
    (finds : FindsFile (index_in s) f block old now) where
  abbrev t : Table
  t = table_of old.image (home_of s)

  same : IsTrue old.honest → table (index_in s) old ≡ t
  same honest = table-of s old for honest

  -- none stays
  pub keeps-none : (to : ℕ) → to ≡ 0 → FindsLastKept (home_of s) (index_in s) f to f.number 0 block old now
  keeps-none to none = record {
    no_cause = λ honest. length-first s f block old for finds.holds honest own to
        ∙ ap (λ (b : Bool). cond b (Some EndOfFile) None) (le-ltb _ _ (omega (arith, none)));
    named = λ honest. held-named s f block old for finds.holds honest ∙ seen-own f.number (file_in (home_of s) f.number old.image) own;
    header = finds.holds.header;
    of_file = λ honest. first (subst (λ (u : Table). IsFile u f.number) (same honest) (is-file s f block old for finds.holds honest).file);
    to_is = λ honest.
        let first_one = (subst (λ (u : Table). IsFile u f.number) (same honest) (is-file s f block old for finds.holds honest).file).first
        in
        let before : blocks_before t f.number f.number ≡ 0 = ap (λ (k : ℕ). length (blocks_by t (take k (headers_of t f.number)))) first_one
        in
        omega (arith, none, before);
    within = omega arith;
    needed = inl finds.holds.is_first.first;
    looked = looked_within finds.looked (omega arith);
  }

  -- some do
  pub keeps-some : (to keep : ℕ) (place : Place) (after : List ℕ) (new : Disk) → 0 < to
      → Seeks (index_in s) f.number 1 (to - 1) place after now new → keep ≡ min place.left (to - 1) + 1
      → FindsLastKept (home_of s) (index_in s) f to place.number keep after old new
  keeps-some to keep place after new some goes is = record {
    no_cause = λ honest.
        let at : slice_get (file_blocks (table (index_in s) old) f.number) (to - 1) ≡ slice_get (blocks_named after) place.left =
        subst (λ (u : Table). slice_get (file_blocks u f.number) (to - 1) ≡ slice_get (blocks_named after) place.left) tables
        (goes.block_is (now-honest honest)) in
        let within = slice_get_within (file_blocks (table (index_in s) old) f.number) (to - 1) _
        (at ∙ slice_get-get_or (blocks_named after) place.left 0 goes.left_within) in
        length-first s f block old for finds.holds honest own to
        ∙ ap (λ (b : Bool). cond b (Some EndOfFile) None) (le-ltb _ _ (omega (arith, within, some)));
    named = λ honest. held-named s f block old for finds.holds honest ∙ seen-own f.number (file_in (home_of s) f.number old.image) own;
    header = holds-stays (index_in s) old now 1 finds.looked place.number after goes.header;
    of_file = λ honest. subst (λ (u : Table). IsHeaderOf u f.number place.number) (tables ∙ same honest) (goes.of_file (now-honest honest));
    to_is = λ honest.
        let at = subst (λ (u : Table). to - 1 ≡ blocks_before u f.number place.number + place.left) (tables ∙ same honest)
        (goes.at_is (now-honest honest)) in
        omega (arith, at, is, some);
    within = let left = goes.left_within in omega (arith, is, left);
    needed = inr (omega (arith, is));
    looked = looked_within (looked_more finds.looked goes.looked.looked) (let few = goes.no_further in let segment = goes.segment in
        omega (arith, few, segment));
  }
    where
      tables : table (index_in s) now ≡ table (index_in s) old
      tables = ap (λ (i : Image). table_in i (index_in s)) finds.looked.image

      now-honest : IsTrue old.honest → IsTrue now.honest
      now-honest honest = finds.looked.honest ∙ honest
