-- The index file of a volume is read in two steps: the home block, and then the index file.
use Rattle.std.proofs.Common.{◌≡◌, ◌⊎◌, ℕ, ◌+◌, ◌/◌, ◌<◌, ◌≤◌, List, Some, length, refl, sym, ap, subst, ◌∙◌, inl, inr, arith}
use Rattle.std.specs.List.{slice_get}
use Rattle.std.proofs.lemmas.Bool.Decides.{nat_tests}
use Rattle.f11_dev.specs.Disk.{Disk}
use Rattle.f11_dev.specs.Image.{Image, image_block}
use Rattle.f11_dev.proofs.ImageLemmas.{image_block-read}
use Rattle.f11_dev.proofs.LookedLemmas.{looked_more, looked_within}
use Rattle.f11_home.specs.Home.{HomeFields, FindsHome, candidates, IsSound}
use Rattle.f11_index.specs.Calls.{ReadsIndex}
use Rattle.f11_index.specs.IndexFile.{Index, slots, header_lbn}
use Rattle.f11_index.specs.Table.{table_in}
use Rattle.f11_index.specs.Sound.{IsIndexFile}
use Rattle.f11_commands.specs.AnyVolume.{FindsVolume}
use Rattle.f11_commands.specs.DumpCommand.{IsHeaderDump, no_header_line}
use Rattle.f11_commands.specs.Dump.{IsDump}

candidates-counted : (blocks : ℕ) → 1 < blocks → candidates blocks ≡ (blocks + 255) / 256
candidates-counted blocks some = grind (arith, nat_tests)

-- how many blocks are read
reads-few : (home : HomeFields) (blocks headers : ℕ) → IsSound home blocks → headers ≤ 256
    → home.lbn / 256 + 1 + (home.index_blocks + headers) ≤ candidates blocks + 272
reads-few home blocks headers sound at_most =
    let few = sound.valid.fields.small_bitmap in
    let is = ap (λ (h : HomeFields). h.index_blocks) sound.fields in
    let many = sound.valid.fields.index_within in
    let count = candidates-counted blocks (omega (arith, many)) in
    omega (arith, few, is, many, count, sound.within, at_most)

-- the index file was read, whatever its bits past the slots are
pub FindsVolume-read : (home : HomeFields) (index : Index) (old mid new : Disk) → FindsHome old mid home → ReadsIndex home index mid new
    → FindsVolume home index old new
FindsVolume-read home index old mid new finds reads = record {
  readable = λ honest. record {
    is_home = finds.is_home honest;
    index_file = subst (λ (i : Image). IsIndexFile i home) finds.looked.image (reads.sound (finds.looked.honest ∙ honest));
  };
  is_for = reads.is_for;
  looked = looked_within (looked_more finds.looked reads.looked.looked)
      (reads-few home (length old.image) reads.looked.headers finds.sound reads.looked.few);
}

-- what is said of a header whose slot isn't there, and of one that is
pub no_slot-dump : (index : Index) (image : Image) (n : ℕ) → (n ≡ 0) ⊎ (slots index < n)
    → IsHeaderDump (table_in image index) n (no_header_line n)
unfolding table_in
no_slot-dump index image n none = record {
  slot = λ some within. elim none [ inl is ↦ absurd (omega (arith, is, some)) | inr past ↦ absurd (omega (arith, past, within)) ];
  no_slot = λ _. refl;
}

pub slot-dump : (index : Index) (image : Image) (n lbn : ℕ) (block text : List ℕ) → 0 < n → n ≤ slots index → lbn ≡ header_lbn index n
    → slice_get image lbn ≡ Some block
    → IsDump block n text → IsHeaderDump (table_in image index) n text
unfolding table_in
slot-dump index image n lbn block text some within at reads dump = record {
  slot = λ _ _. subst (λ (b : List ℕ). IsDump b n text) (sym (image_block-read image lbn block reads) ∙ ap (image_block image) at) dump;
  no_slot = λ none. elim none [ inl is ↦ absurd (omega (arith, is, some)) | inr past ↦ absurd (omega (arith, past, within)) ];
}
