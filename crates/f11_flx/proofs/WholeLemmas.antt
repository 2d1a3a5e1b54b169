-- Each block of a volume's files has 512 bytes, as each of an image has.
use Rattle.std.proofs.Common.{◌≡◌, inl, inr, ℕ, ◌==◌, nat_le, Bool, true, false, [], length, Option, Some, None, if◌then◌else◌, unwrap_or}
use Rattle.std.proofs.Common.{refl, ap, subst, ◌∙◌, arith}
use Rattle.std.specs.Option.{option_and_then}
use Rattle.std.proofs.lemmas.Bool.{cases_lt}
use Rattle.std.proofs.lemmas.List.{get_or_past}
use Rattle.std.proofs.lemmas.List.Elements.{All-map}
use Rattle.std.proofs.lemmas.Option.{slice_get-get_or}
use Rattle.f11_bytes.specs.Block.{zero_block}
use Rattle.f11_dev.specs.Image.{Image, IsImage}
use Rattle.f11_store.proofs.DirectoryLaws.{length-zero_block}
use Rattle.f11_dev.specs.declared.device.Device.{Ghosts}
use Rattle.f11_fcp.specs.Lists.{store_of_volume}
use Rattle.f11_fcp.specs.Serving.{state_in}
use Rattle.f11_fcp.specs.declared.volume.Volume.{Volume}
use Rattle.f11_fcp.specs.image_store.StoreOf.{as_seen, file_at, is_first, store_of}
use Rattle.f11_fcp.specs.index.Table.{Table, table_of}
use Rattle.f11_store.specs.File.{File, no_file}
use Rattle.f11_store.specs.Store.{file_named, of_sequence}
use Rattle.f11_store.specs.declared.files.FileId.{FileId}
use Rattle.f11_fcp.specs.of_volume.Contents.{block_or_zeros, file_of, headers_reached}
use Rattle.f11_fcp.specs.chain.FileHeaders.{blocks_by}
use Rattle.f11_flx.specs.CopyToRt.{HasWholeBlocks}

module _ (image : Image) (is_image : IsImage image) where
  block-size : (lbn : ℕ) → length (block_or_zeros image lbn) ≡ 512
  block-size lbn = elim (cases_lt lbn (length image)) [
    | inl below ↦ (is_image.each lbn _ (slice_get-get_or image lbn zero_block below)).size
    | inr past ↦ ap length (get_or_past image lbn zero_block past) ∙ length-zero_block
  ]

  whole-file : (t : Table) (n : ℕ) → HasWholeBlocks (file_of image t n)
  unfolding file_of
  whole-file t n =
      All-map (λ block. length block ≡ 512) (block_or_zeros image) (blocks_by t (headers_reached t n)) (λ k d below. block-size _)

  seen : (b : Bool) (f : File) → HasWholeBlocks f → HasWholeBlocks (if b then record f { blocks = [] } else f)
  seen true f whole = λ k d below. absurd (omega (arith, below))
  seen false f whole = whole

  found : (b : Bool) (f : File) → HasWholeBlocks f → (o : Option File) → (if b then Some f else None) ≡ o
      → HasWholeBlocks (unwrap_or o no_file)
  found true f whole o is = subst (λ x. HasWholeBlocks (unwrap_or x no_file)) is whole
  found false f whole o is = subst (λ x. HasWholeBlocks (unwrap_or x no_file)) is (λ k d below. absurd (omega (arith, below)))

  of-number : (t : Table) (n : ℕ) (o : Option File) → file_at image t n ≡ o → HasWholeBlocks (unwrap_or o no_file)
  unfolding file_at
  of-number t n o is = found (is_first t n) (as_seen n (file_of image t n)) (seen (nat_le n 3) (file_of image t n) (whole-file t n)) o is

  of-sequence : (sequence : ℕ) (o : Option File) → HasWholeBlocks (unwrap_or o no_file)
      → HasWholeBlocks (unwrap_or (option_and_then (of_sequence sequence) o) no_file)
  of-sequence sequence None whole = whole
  of-sequence sequence (Some f) whole = by_same (f.sequence == sequence)
    where
      by_same : (b : Bool) → HasWholeBlocks (unwrap_or (if b then Some f else None) no_file)
      by_same true = whole
      by_same false = λ k d below. absurd (omega (arith, below))

-- those of the file that an identification names
pub whole-blocks : {D : Type 0} {met : Ghosts D} (v : Volume D met) → IsImage (state_in v).disk.image → (id : FileId)
    → HasWholeBlocks (file_named (store_of_volume v) id)
unfolding store_of
whole-blocks v is_image id =
    let image = (state_in v).disk.image in
    let t = table_of image (state_in v).home in
    of-sequence image is_image id.sequence (file_at image t id.number)
    (of-number image is_image t id.number (file_at image t id.number) refl)
