-- The headers of a fresh volume's own files (Files-11 On-Disk Structure Level 1, "File Header"; profile: what they say).
use Rattle.std.specs.Prelude.{◌≡◌, ℕ, ◌+◌, ◌*◌, ◌≤◌, List, length, drop, replicate, slice_index}
use Rattle.std.specs.List.{range_with_len}
use Rattle.f11_map.specs.header.Fields.{file_number, file_sequence, owner, protection, characteristics, attributes, ident_area, map_area}
use Rattle.f11_map.specs.header.Header.{IsHeader}
use Rattle.f11_map.specs.header.MapFields.{segment, link, most_words, places}
use Rattle.f11_map.specs.MapArea.{runs_of, blocks_of}
use Rattle.f11_map.specs.MapWriting.{fewest_runs}
use Rattle.f11_layout.specs.Files.{own_file}
use Rattle.f11_layout.specs.NamesBlocks.{HasNoPointers}
use Rattle.f11_layout.specs.OwnFields.{own_ident, own_attributes}
use Rattle.f11_layout.specs.declared.layout.Layout.{Layout}

-- A block is the header of file n of a fresh volume as far as it doesn't name blocks.
pub record IsBareHeader (l : Layout) (n : ℕ) (b : List ℕ) : Type 0 where
  pub none : HasNoPointers b
  pub number_is : file_number b ≡ n
  pub sequence_is : file_sequence b ≡ n
  pub owner_is : owner b ≡ l.owner
  pub protection_is : protection b ≡ 57344
  pub no_characteristics : characteristics b ≡ 0
  pub attributes_are : attributes b ≡ own_attributes (own_file l n)
  pub ident_is : ident_area b ≡ own_ident (own_file l n).name
  pub first_segment : segment (map_area b) ≡ 0
  pub no_link : link (map_area b) ≡ record { number = 0; sequence = 0; volume = 0 }
  pub most : most_words (map_area b) ≡ 204
  pub rest : drop 10 (map_area b) ≡ replicate 408 0

-- A block is the header of file n of a fresh volume: valid, and with nothing in it but these.
pub record IsFreshHeader (l : Layout) (n : ℕ) (b : List ℕ) : Type 0 where
  pub valid : IsHeader b n
  pub sequence_is : file_sequence b ≡ n
  pub owner_is : owner b ≡ l.owner
  pub protection_is : protection b ≡ 57344
  pub no_characteristics : characteristics b ≡ 0
  pub attributes_are : attributes b ≡ own_attributes (own_file l n)
  pub ident_is : ident_area b ≡ own_ident (own_file l n).name
  pub first_segment : segment (map_area b) ≡ 0
  pub no_link : link (map_area b) ≡ record { number = 0; sequence = 0; volume = 0 }
  pub most : most_words (map_area b) ≡ 204
  pub room : places (map_area b) ≡ 102
  pub pointers : runs_of (map_area b) ≡ fewest_runs (own_file l n).first (own_file l n).count
  pub blocks : blocks_of (map_area b) ≡ range_with_len (own_file l n).first (own_file l n).count
  pub rest : (i : ℕ) → 10 + 4 * length (runs_of (map_area b)) ≤ i → slice_index (map_area b) i ≡ 0
