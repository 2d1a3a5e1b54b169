-- A file gets one more header, in three writes.
use Rattle.std.proofs.Common.{◌≡◌, ◌≢◌, ℕ, ◌+◌, ◌<◌, true, List, [], ◌∷◌, ◌++◌, map, sym, ap, subst, ◌∙◌, arith}
use Rattle.std.proofs.lemmas.List.{append-nil}
use Rattle.f11_dev.specs.Image.{Image}
use Rattle.f11_volume.specs.header.Fields.{file_sequence}
use Rattle.f11_volume.specs.header.Header.{IsHeader}
use Rattle.f11_volume.specs.home.Home.{HomeFields}
use Rattle.f11_volume.specs.store.File.{File}
use Rattle.f11_volume.specs.store.declared.files.FileId.{FileId}
use Rattle.f11_index.specs.Calls.{SetsBit}
use Rattle.f11_index.specs.ChangeLaws.{IsAsGood}
use Rattle.f11_index.specs.Growth.{with_header}
use Rattle.f11_volume.specs.map.HeaderBlock.{segment_number, link_of, blocks_named}
use Rattle.f11_index.specs.Headers.{headers_of, IsInFile}
use Rattle.f11_index.specs.IndexFile.{Index, index_of}
use Rattle.f11_index.specs.Table.{Table, table_of, IsLive, IsFile, IsNext, IsHeaderOf}
use Rattle.f11_index.proofs.ChainLemmas.{file_of-header, live_of-header}
use Rattle.f11_index.proofs.UpLemmas.{header-up}
use Rattle.f11_volume.specs.chain.FileHeaders.{file_blocks}
use Rattle.f11_volume.specs.chain.Laws.{HasHeaderMore}
use Rattle.f11_volume.proofs.chain.ChangeLemmas.{has-header}
use Rattle.f11_volume.specs.Contents.{block_or_zeros}
use Rattle.f11_volume.specs.Sound.{HasSoundVolume}
use Rattle.f11_volume.specs.Volume.{volume_of}
use Rattle.f11_volume.proofs.FileLemmas.{image-files, file-headers-are, file-blocks-are}
use Rattle.f11_writes.specs.Kept.{file_in, WritesHeader}
use Rattle.f11_writes.specs.Volumes.{MayName, MayBecome, links_anew}
use Rattle.f11_writes.specs.Worked.{IsNewHeader, LinksToNew, with_new_header, LinksHeader}
use Rattle.f11_writes.proofs.HeaderLemmas.{file-rewrite-keeps}
use Rattle.f11_writes.proofs.MadeLemmas.{unused, not-in, one, two, here-now, live-now, header-stays, file-stays}
use Rattle.f11_writes.proofs.NameLemmas.{own-names}
use Rattle.f11_writes.proofs.OtherSlotLemmas.{entered-unlinked, stay-before, stay-up-to}

module _ (old : Image) (home : HomeFields) (f n m : ℕ) (last header : List ℕ) (after : Index) (is : HasSoundVolume old home)
    (new : IsNewHeader (index_of old home) m header)
    (links : LinksToNew (table_of old home) f n m last header) (bit : SetsBit true m (index_of old home) after) where
  abbrev t : Table
  t = table_of old home

  -- the new header came into use
  abbrev first : Image
  first = with_header old home m header

  abbrev second : Image
  second = with_new_header old home m header after

  abbrev t2 : Table
  t2 = table_of second home

  abbrev three-before : HasSoundVolume second home
  three-before = (two old home m header after is new bit).slot.sound

  file-was : IsFile t f
  file-was = file_of-header links.is_last.of

  of-second : IsHeaderOf t2 f n
  of-second = header-stays old home m header after is new bit f file-was n links.is_last.of

  apart : n ≢ m
  apart same = not-in old home m header after is new bit f (subst (IsHeaderOf t f) same links.is_last.of)

  -- header n is as it was
  same-n : t2.header n ≡ t.header n
  same-n =
      let o = (one old home m header after is new bit).slot.others in
      let used = (live_of-header links.is_last.of).in_use in
      (two old home m header after is new bit).slot.others.header n apart (o.in_use n apart ∙ used) ∙ o.header n apart used

  same-segment : segment_number (t2.header n) ≡ segment_number (t.header n)
  same-segment = ap segment_number same-n

  new-there : t2.header m ≡ header
  new-there = here-now old home m header after is new bit

  number-is : (link_of last).number ≡ m
  number-is = ap (λ (i : FileId). i.number) links.link

  -- no header of a file links to the new one
  unlinked : (k : ℕ) → IsInFile t2 k → ¬ IsNext t2 k m
  unfolding volume_of
  unlinked k = entered-unlinked (volume_of first home) (volume_of second home) m k (one old home m header after is new bit).slot.sound.sound
      (two old home m header after is new bit).slot.others (in-use-first ∙ unused old home m header after is new bit)
      (ap (λ (b : List ℕ). (link_of b).number) new-there ∙ new.no_link)
    where
      in-use-first : (table_of first home).in_use m ≡ t.in_use m
      in-use-first = λ i. (one old home m header after is new bit).in_use i m

  becomes : MayBecome (volume_of second home) n last
  unfolding volume_of
  becomes =
      let v = volume_of second home in
      record {
        valid = links.good.valid;
        good = λ live. record {
          valid = links.good.valid;
          sequence = links.good.sequence ∙ ap file_sequence (sym same-n);
          segment = links.good.segment ∙ sym same-segment;
        };
        names = subst (MayName v n) (ap blocks_named same-n ∙ sym links.names)
            (own-names v n three-before.sound (live_of-header of-second));
        link = links_anew (record {
          not_last = subst (λ (s : ℕ). s < 255) (sym links.good.segment) links.few;
          here = ap (λ (i : FileId). i.volume) links.link;
          to = subst (IsLive t2) (sym number-is) (live-now old home m header after is new bit);
          sequence = ap (λ (i : FileId). i.sequence) links.link ∙ ap file_sequence (sym new-there)
              ∙ ap (λ (k : ℕ). file_sequence (t2.header k)) (sym number-is);
          segment = ap (λ (k : ℕ). segment_number (t2.header k)) number-is ∙ ap segment_number new-there ∙ links.segment
              ∙ ap (λ (s : ℕ). s + 1) (sym links.good.segment);
          no_link = ap (λ (k : ℕ). (link_of (t2.header k)).number) number-is ∙ ap (λ (b : List ℕ). (link_of b).number) new-there
              ∙ new.no_link;
          no_other = λ k in_file goes. unlinked k in_file (subst (IsNext t2 k) number-is goes);
        });
      }

  -- the last header was written
  abbrev third : Image
  third = with_header second home n last

  three : WritesHeader n last home second third
  three = file-rewrite-keeps second home three-before n last f links.late of-second becomes

  abbrev u : Table
  u = table_of third home

  here : u.header n ≡ last
  here = three.index_file.header

  new-stays : u.header m ≡ header
  new-stays = three.slot.others.header m (λ same. apart (sym same)) (live-now old home m header after is new bit).in_use ∙ new-there

  more : HasHeaderMore f m t2 u
  more =
      has-header t2 u f n of-second (subst (λ (s : ℕ). s < 256) (sym same-segment) (omega (arith, links.few)))
      (stay-before t2 u f n three.slot.others)
      (ap (λ (b : List ℕ). (link_of b).number) same-n ∙ links.is_last.no_link) m (subst (λ (s : ℕ). s < 255) (sym same-segment) links.few)
      new.some
      (ap (λ (b : List ℕ). (link_of b).number) here ∙ number-is) (ap blocks_named here ∙ links.names ∙ ap blocks_named (sym same-n))
      (ap (λ (b : List ℕ). (link_of b).number) new-stays ∙ new.no_link)

  good-now : IsAsGood t2 u n
  good-now = record {
    in_use = (λ i. three.in_use i n) ∙ (live_of-header of-second).in_use;
    valid = subst (λ (b : List ℕ). IsHeader b n) (sym here) links.good.valid;
    sequence = ap file_sequence here ∙ links.good.sequence ∙ ap file_sequence (sym same-n);
    segment = ap segment_number here ∙ links.good.segment ∙ sym same-segment;
  }

  of-third : IsHeaderOf u f n
  of-third = header-up t2 u f of-second (stay-up-to t2 u f n of-second three.slot.others good-now)

  not-one : f ≢ 1
  not-one same = omega (arith, same, links.late)

  same-blocks : (file_in home f third).blocks ≡ (file_in home f old).blocks
  same-blocks =
      let whole = ((image-files second home three-before).each f (file_of-header of-second)).whole in
      three.slot.contents f (file_of-header of-third) not-one
      ∙ ap (map (block_or_zeros second))
      (more.blocks ∙ ap (λ (bs : List ℕ). file_blocks t2 f ++ bs) (ap blocks_named new-stays ∙ new.no_blocks)
      ∙ append-nil (file_blocks t2 f))
      ∙ sym (file-blocks-are second t2 f whole)
      ∙ ap (λ (x : File). x.blocks) (file-stays old home m header after is new bit f file-was not-one)

  same-headers : headers_of t2 f ≡ headers_of t f
  same-headers =
      let now = ((image-files second home three-before).each f (file_of-header of-second)).whole in
      let was = ((image-files old home is).each f file-was).whole in
      sym (file-headers-are second t2 f now) ∙ ap (λ (x : File). x.held) (file-stays old home m header after is new bit f file-was not-one)
      ∙ file-headers-are old t f was

  pub links-header : LinksHeader f m header after home old third
  links-header = record {
    written = (one old home m header after is new bit).slot.sound;
    entered = three-before;
    linked = three.slot.sound;
    headers = more.headers ∙ ap (λ (hs : List ℕ). hs ++ m ∷ []) same-headers;
    blocks = same-blocks;
  }
