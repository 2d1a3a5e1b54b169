-- One write of a header of a file from 4 on: the volume is sound, and the store has the file as it is then.
use Rattle.std.proofs.Common.{◌≡◌, ◌≤◌, ◌+◌, ℕ, List, ap, sym, subst, ◌∙◌, arith}
use Rattle.f11_dev.specs.Image.{Image}
use Rattle.f11_header.specs.Fields.{file_sequence}
use Rattle.f11_volume.specs.home.Home.{HomeFields}
use Rattle.f11_index.specs.Growth.{with_header}
use Rattle.f11_volume.specs.map.HeaderBlock.{segment_number, link_of, blocks_named}
use Rattle.f11_index.specs.Headers.{IsInFile}
use Rattle.f11_index.specs.Table.{Table, table_of, IsLive, IsNext, IsHeaderOf}
use Rattle.f11_index.proofs.ChainLemmas.{live_of-header}
use Rattle.f11_volume.specs.chain.FileHeaders.{blocks_before}
use Rattle.f11_store.specs.Changes.{with_change}
use Rattle.f11_store.specs.File.{File}
use Rattle.f11_volume.specs.Sound.{HasSoundVolume}
use Rattle.f11_volume.specs.Volume.{Volume, volume_of}
use Rattle.f11_writes.specs.Kept.{file_in, WritesHeader}
use Rattle.f11_writes.specs.NameLaws.{AreUnreferenced}
use Rattle.f11_writes.specs.Volumes.{MayName, MayLink, links_to_none, links_anew}
use Rattle.f11_writes.proofs.HeaderLemmas.{file-rewrite-keeps}
use Rattle.f11_writes.proofs.NameLemmas.{own-names, more-names, fewer-names}
use Rattle.f11_image_store.specs.FileLaws.{MayStand, NamesMoreOf, LinksOnTo, EndsThere, with_header_more, with_first_headers, held_from}
use Rattle.f11_image_store.specs.FileLaws.{pointers_before, pointers_in, room_in, ChangesFileAt}
use Rattle.f11_store.specs.Pieces.{with_more_blocks}
use Rattle.f11_image_store.specs.StoreOf.{store_of}
use Rattle.f11_image_store.proofs.FileLemmas.{as-header, of-now, file-more, file-linked, file-ends}
use Rattle.f11_image_store.proofs.InstanceLemmas.{file-stored}

-- a file from 4 on has changed so
stored-so : (old new : Image) (home : HomeFields) (f n : ℕ) (block : List ℕ) (change : File → File) → 4 ≤ f
    → WritesHeader n block home old new → MayStand (table_of old home) f n block
    → file_in home f new ≡ change (file_in home f old) → store_of new home ≡ with_change (store_of old home) f change
stored-so old new home f n block change late wrote stands changed =
    file-stored old new home n block wrote stands.good.sequence f change late stands.of
    (of-now old new home f n block (as-header n block home old new wrote) stands) changed

pub file-grows : (old new : Image) (home : HomeFields) (f n : ℕ) (block : List ℕ) (more lbn count : ℕ) → 4 ≤ f
    → WritesHeader n block home old new
    → NamesMoreOf (table_of old home) f n block more lbn count
    → store_of new home ≡ with_change (store_of old home) f (with_more_blocks more (held_from old lbn count))
file-grows old new home f n block more lbn count late wrote may =
    stored-so old new home f n block (with_more_blocks more (held_from old lbn count)) late wrote may.stands
    (file-more old new home f n block more lbn count (omega (arith, late)) wrote may)

module _ (image : Image) (home : HomeFields) (f n : ℕ) (block : List ℕ) (is : HasSoundVolume image home) (late : 4 ≤ f) where
  abbrev t : Table
  t = table_of image home

  abbrev v : Volume
  v = volume_of image home

  abbrev new : Image
  new = with_header image home n block

  live : IsHeaderOf t f n → IsLive v.table n
  unfolding volume_of
  live of = live_of-header of

  wrote : (stands : MayStand t f n block) → MayName v n (blocks_named block) → MayLink v n block → WritesHeader n block home image new
  unfolding volume_of
  wrote stands names link =
      file-rewrite-keeps image home is n block f late stands.of
      (record { valid = stands.good.valid; good = λ _. stands.good; names = names; link = link })

  pub names-more : (more lbn count : ℕ) → NamesMoreOf t f n block more lbn count → AreUnreferenced v lbn count
      → ChangesFileAt f n block (with_more_blocks more (held_from image lbn count)) home image new
  unfolding volume_of
  names-more more lbn count may unreferenced =
      let writes = wrote may.stands
      (subst (MayName v n) (sym may.blocks) (more-names v n lbn count is.sound (live may.stands.of) unreferenced))
      (links_to_none may.no_link) in
      record { header = writes; store = file-grows image new home f n block more lbn count late writes may }

  pub links-on : (m : ℕ) → LinksOnTo t f n m block → (link_of block).volume ≡ 0 → ((other : ℕ) → IsInFile t other → ¬ IsNext t other m)
      → ChangesFileAt f n block (with_header_more image t m) home image new
  unfolding volume_of
  links-on m may here fileless =
      let writes = wrote may.stands (subst (MayName v n) (sym may.blocks) (own-names v n is.sound (live may.stands.of)))
      (links_anew (record {
        not_last = omega (arith, may.early, may.stands.good.segment);
        here = here;
        to = subst (IsLive t) (sym may.number) may.to;
        sequence = may.sequence ∙ ap (λ (k : ℕ). file_sequence (t.header k)) (sym may.number);
        segment = ap (λ (k : ℕ). segment_number (t.header k)) may.number ∙ may.next_segment
            ∙ ap (λ (s : ℕ). s + 1) (sym may.stands.good.segment);
        no_link = ap (λ (k : ℕ). (link_of (t.header k)).number) may.number ∙ may.no_link;
        no_other = λ other in_file goes. fileless other in_file (subst (IsNext t other) may.number goes);
      })) in
      record {
        header = writes;
        store = stored-so image new home f n block (with_header_more image t m) late writes may.stands
            (file-linked image new home f n m block (omega (arith, late)) writes may);
      }

  pub may-end : (left : ℕ) → EndsThere t f n block left
      → ChangesFileAt f n block
      (with_first_headers (segment_number (t.header n) + 1) (pointers_before t f n + pointers_in block) (room_in block)
      (blocks_before t f n + left)) home image new
  unfolding volume_of
  may-end left may =
      let writes = wrote may.stands
      (subst (MayName v n) (sym may.blocks)
      (fewer-names v n left (blocks_named (t.header n)) (own-names v n is.sound (live may.stands.of)))) (links_to_none may.no_link) in
      record {
        header = writes;
        store = stored-so image new home f n block
            (with_first_headers (segment_number (t.header n) + 1) (pointers_before t f n + pointers_in block) (room_in block)
            (blocks_before t f n + left)) late writes may.stands
            (file-ends image new home f n block left (omega (arith, late)) writes is may);
      }
