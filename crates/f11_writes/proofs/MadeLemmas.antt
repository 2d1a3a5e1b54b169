-- A new header is written and comes into use, in two writes, as that of an empty file.
use Rattle.std.proofs.Common.{◌≡◌, ◌≢◌, ◌↔◌, ℕ, ◌≤◌, true, false, List, [], ◌∷◌, ◌++◌, map, sym, ap, subst, ◌∙◌, arith}
use Rattle.f11_dev.specs.Image.{Image}
use Rattle.f11_volume.specs.header.Header.{IsHeader}
use Rattle.f11_volume.specs.home.Home.{HomeFields}
use Rattle.f11_index.specs.Calls.{SetsBit}
use Rattle.f11_index.specs.Growth.{with_header}
use Rattle.f11_volume.specs.map.HeaderBlock.{segment_number, link_of, blocks_named}
use Rattle.f11_index.specs.Headers.{headers_from, headers_of}
use Rattle.f11_index.specs.IndexFile.{Index, index_of, slots, is_in_use}
use Rattle.f11_index.specs.Table.{Table, table_in, table_of, IsLive, IsFile, IsHeaderOf, IsWholeFile}
use Rattle.f11_index.proofs.BitLemmas.{SetsBit-in_use}
use Rattle.f11_index.proofs.ChainLemmas.{live_of-header}
use Rattle.f11_index.proofs.HeadersLemmas.{headers_from-some, headers_from-none}
use Rattle.f11_volume.specs.chain.FileHeaders.{blocks_by, file_blocks}
use Rattle.f11_volume.specs.Contents.{block_or_zeros}
use Rattle.f11_volume.specs.Sound.{HasSoundVolume}
use Rattle.f11_volume.specs.Volume.{volume_of}
use Rattle.f11_volume.proofs.FileLemmas.{image-files}
use Rattle.f11_writes.specs.Kept.{file_in, WritesHeader, WritesSlotBit}
use Rattle.f11_writes.specs.Volumes.{MayName, MayBecome, links_to_none}
use Rattle.f11_writes.specs.Worked.{IsNewHeader, with_new_header, WritesNewFile}
use Rattle.f11_writes.proofs.BitLemmas.{set-keeps}
use Rattle.f11_writes.proofs.HeaderLemmas.{unused-keeps}
use Rattle.f11_writes.proofs.NameLemmas.{unreferenced-names}
use Rattle.f11_writes.proofs.OtherSlotLemmas.{file-kept}

module _ (old : Image) (home : HomeFields) (n : ℕ) (header : List ℕ) (after : Index) (is : HasSoundVolume old home)
    (new : IsNewHeader (index_of old home) n header)
    (bit : SetsBit true n (index_of old home) after) where
  abbrev t : Table
  t = table_of old home

  pub unused : t.in_use n ≡ false
  unfolding table_in
  unused = new.unused

  pub not-in : (g : ℕ) → ¬ IsHeaderOf t g n
  not-in g of = let used = sym unused ∙ (live_of-header of).in_use in cc

  -- the header was written
  abbrev first : Image
  first = with_header old home n header

  pub one : WritesHeader n header home old first
  one = unused-keeps old home is n header new.some new.slot new.unused

  here : (table_of first home).header n ≡ header
  here = one.index_file.header

  becomes : MayBecome (volume_of first home) n ((table_of first home).header n)
  unfolding volume_of
  becomes =
      let v = volume_of first home in
      subst (MayBecome v n) (sym here) (record {
        valid = new.valid;
        good = λ live. let used = sym unused ∙ sym (λ i. one.in_use i n) ∙ live.in_use in cc;
        names = subst (MayName v n) (sym new.no_blocks) (unreferenced-names v n 0 0 (record {
          inside = omega arith;
          used = λ k low high. absurd (omega (arith, low, high));
          unnamed = λ k low high. absurd (omega (arith, low, high));
        }));
        link = links_to_none new.no_link;
      })

  -- the bit was set
  abbrev second : Image
  second = with_new_header old home n header after

  abbrev u : Table
  u = table_of second home

  index-same : index_of first home ≡ index_of old home
  index-same = one.index_file.index

  pub two : WritesSlotBit n after home first second
  two = set-keeps first home n after one.slot.sound new.some
      (subst (λ (x : Index). n ≤ slots x) (sym index-same) new.slot)
      (ap (λ (x : Index). is_in_use x n) index-same ∙ new.unused) becomes
      (subst (λ (x : Index). SetsBit true n x after) (sym index-same) bit)

  pub here-now : u.header n ≡ header
  here-now = (λ i. (two.index_file.table i).header n) ∙ here

  in-use-now : u.in_use n ≡ true
  in-use-now = (λ i. (two.index_file.table i).in_use n) ∙ SetsBit-in_use true n (index_of old home) after new.some new.slot bit

  pub live-now : IsLive u n
  live-now = record { in_use = in-use-now; valid = subst (λ (b : List ℕ). IsHeader b n) (sym here-now) new.valid }

  -- a file stays
  module _ (g : ℕ) (was : IsFile t g) where
    kept-first : IsWholeFile (table_of first home) g × ((m : ℕ) → IsHeaderOf (table_of first home) g m ↔ IsHeaderOf t g m)
    kept-first = file-kept t (table_of first home) n g one.slot.others ((image-files old home is).each g was).whole (not-in g)

    not-in-first : ¬ IsHeaderOf (table_of first home) g n
    not-in-first of = not-in g ((kept-first.1 n).0 of)

    kept-second : IsWholeFile u g × ((m : ℕ) → IsHeaderOf u g m ↔ IsHeaderOf (table_of first home) g m)
    kept-second = file-kept (table_of first home) u n g two.slot.others kept-first.0 not-in-first

    pub header-stays : (m : ℕ) → IsHeaderOf t g m → IsHeaderOf u g m
    header-stays m of = (kept-second.1 m).1 ((kept-first.1 m).1 of)

    pub file-stays : g ≢ 1 → file_in home g second ≡ file_in home g old
    file-stays other =
        two.slot.files g kept-second.0.file other (λ of. not-in-first ((kept-second.1 n).0 of))
        ∙ one.slot.files g kept-first.0.file other not-in-first

  -- it is a file's first
  module _ (starts : segment_number header ≡ 0) where
    pub is-file : IsFile u n
    is-file = record { live = live-now; first = ap segment_number here-now ∙ starts }

    pub one-header : headers_of u n ≡ n ∷ []
    one-header =
        headers_from-some 255 u n new.some
        ∙ ap (λ (k : ℕ). n ∷ headers_from 255 u k) (ap (λ (b : List ℕ). (link_of b).number) here-now ∙ new.no_link)
        ∙ ap (λ (hs : List ℕ). n ∷ hs) (headers_from-none 255 u)

    no-blocks : file_blocks u n ≡ []
    unfolding file_blocks
    no-blocks = ap (blocks_by u) one-header ∙ ap (λ (b : List ℕ). b ++ []) (ap blocks_named here-now ∙ new.no_blocks)

    not-one : n ≢ 1
    not-one same = not-in 1 (subst (IsHeaderOf t 1) (sym same) (IsHeaderOf.first is.framed.indexed.file.whole.file))

    pub makes-file : WritesNewFile n header after home old
    makes-file = record {
      written = one.slot.sound;
      entered = two.slot.sound;
      file = is-file;
      empty = two.slot.contents n is-file not-one ∙ ap (map (block_or_zeros first)) no-blocks;
      others = λ g was late. file-stays g was (λ same. omega (arith, same, late));
    }
