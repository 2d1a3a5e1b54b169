-- The contiguous mark of a file is set: it has the headers and the blocks that it had.
use Rattle.std.proofs.Common.{◌≡◌, ◌↔◌, ◌≤◌, ℕ, Bool, true, IsTrue, List, sym, ap, subst, ◌∙◌}
use Rattle.f11_dev.specs.Disk.{Disk, with_transfer, with_block_at}
use Rattle.f11_dev.specs.Image.{Image}
use Rattle.f11_home.specs.Home.{HomeFields}
use Rattle.f11_header.specs.Fields.{file_sequence}
use Rattle.f11_header.specs.Header.{IsHeader}
use Rattle.f11_map.specs.HeaderBlock.{link_of, segment_number}
use Rattle.f11_index.specs.Growth.{with_header}
use Rattle.f11_index.specs.IndexFile.{header_lbn}
use Rattle.f11_index.specs.Table.{Table, table_of, IsHeaderOf}
use Rattle.f11_store.specs.File.{File, no_file}
use Rattle.f11_store.specs.Lags.{with_contiguous_mark}
use Rattle.f11_store.specs.declared.files.FileId.{FileId}
use Rattle.f11_volume.specs.Volume.{volume_of}
use Rattle.f11_volume.proofs.FileLemmas.{image-files}
use Rattle.f11_writes.specs.Kept.{WritesHeader}
use Rattle.f11_image_store.specs.Allocation.{ownership_in, GainsBlocks}
use Rattle.f11_image_store.specs.FieldLaws.{SaysBut}
use Rattle.f11_image_store.proofs.FieldLemmas.{field-gains, link-same, segment-same}
use Rattle.f11_files.specs.Answers.{KeepsUnused}
use Rattle.f11_files.specs.Finding.First.{FindsFile}
use Rattle.f11_files.specs.Structure.{index_in, home_of, IsStructureFor}
use Rattle.f11_files.specs.declared.structure.Structure.{Structure}
use Rattle.f11_files.proofs.Changing.Alter.{changes, file-here, is-written, says-here}
use Rattle.f11_files.proofs.Extending.Clear.{headers-stay}
use Rattle.f11_files.proofs.Finding.Named.{block-is}
use Rattle.f11_files.proofs.GrowingIndex.ZeroSlots.{with-unused, zero-header}

module _ (s : Structure) (f : FileId) (was block : List ℕ) (old now : Disk) (lbn : ℕ) (for : IsStructureFor s old) (own : 4 ≤ f.number)
    (finds : FindsFile (index_in s) f was old now)
    (says : SaysBut with_contiguous_mark was block) (at : lbn ≡ header_lbn (index_in s) f.number) where
  abbrev home : HomeFields
  home = home_of s

  abbrev t : Table
  t = table_of old.image home

  abbrev next : Image
  next = with_header old.image home f.number block

  abbrev u : Table
  u = table_of next home

  module _ (honest : IsTrue old.honest) where
    wrote : WritesHeader f.number block home old.image next
    wrote =
        subst (λ (i : Image). WritesHeader f.number block home old.image i)
        (is-written s f with_contiguous_mark was block old now lbn for own finds says at honest)
        (changes s f with_contiguous_mark was block old now lbn for own finds says at honest).header

    header-was : was ≡ t.header f.number
    header-was = block-is s f was old for finds.holds honest

    header-now : u.header f.number ≡ block
    header-now = wrote.index_file.header

    valid : IsHeader block f.number
    valid = record { number = says.number ∙ finds.holds.is_first.valid.number; holds = says.holds; sum = says.sum }

    headers : (m : ℕ) → IsHeaderOf u f.number m ↔ IsHeaderOf t f.number m
    headers =
        headers-stay t u f.number wrote.slot.others
        (record {
          good = record {
            in_use = ap (λ (g : ℕ → Bool). g f.number) wrote.in_use
                ∙ (file-here s f with_contiguous_mark was block old now lbn for own finds says at honest).live.in_use;
            valid = subst (λ (b : List ℕ). IsHeader b f.number) (sym header-now) valid;
            sequence = ap file_sequence header-now ∙ says.sequence ∙ ap file_sequence header-was;
            segment = ap segment_number header-now ∙ segment-same with_contiguous_mark was block says ∙ ap segment_number header-was;
          };
          link = ap link_of header-now ∙ link-same with_contiguous_mark was block says ∙ ap link_of header-was;
        })
        ((image-files old.image home (for.sound honest)).each f.number
        (file-here s f with_contiguous_mark was block old now lbn for own finds says at honest)).whole

    gains-next : GainsBlocks f.number 0 (volume_of old.image home) (volume_of next home)
    unfolding volume_of
    gains-next =
        let says_now = says-here s f with_contiguous_mark was block old now lbn for own finds says at honest in
        field-gains old.image home f.number block with_contiguous_mark (for.sound honest)
        (file-here s f with_contiguous_mark was block old now lbn for own finds says at honest) says_now wrote
        (ownership_in (t.header f.number)) headers (ap (λ (g : File). (g.owner, g.protection)) (says_now.file no_file))

  pub altered-gains : (new : Disk) → new ≡ with_transfer true (with_block_at lbn block now) → IsTrue old.honest
      → KeepsUnused (GainsBlocks f.number 0) (volume_of old.image home) (volume_of new.image home)
  altered-gains new is honest =
      subst (λ (i : Image). KeepsUnused (GainsBlocks f.number 0) (volume_of old.image home) (volume_of i home))
      (sym (ap (λ (d : Disk). d.image) is ∙ is-written s f with_contiguous_mark was block old now lbn for own finds says at honest))
      (with-unused (GainsBlocks f.number 0) home old.image next (gains-next honest)
      (zero-header old.image next home f.number block (wrote honest)
      (file-here s f with_contiguous_mark was block old now lbn for own finds says at honest).live.in_use))
