-- A new file is written and entered, and the store has it.
use Rattle.std.proofs.Common.{◌≡◌, ◌≢◌, ◌⊎◌, ◌≤◌, ◌<◌, ◌-◌, ◌||◌, inl, inr, ℕ, Bool, true, false, cond, List, [], ◌∷◌, Some, refl, ap, sym}
use Rattle.std.proofs.Common.{subst, ◌∙◌, map, length, slice_index, ◌/◌, eqb, arith}
use Rattle.std.specs.List.{sum_by, range_with_len}
use Rattle.std.proofs.lemmas.List.Sums.{sum_by-cons}
use Rattle.std.proofs.lemmas.Option.{get_or_from_slice_get}
use Rattle.std.proofs.lemmas.Bool.{cases_eq, eq-eqb, ne_eqb}
use Rattle.f11_dev.specs.Image.{Image}
use Rattle.f11_header.specs.Fields.{file_sequence, map_area, owner, protection, characteristics, attributes, ident_area}
use Rattle.f11_header.specs.Header.{IsHeader}
use Rattle.f11_header.specs.MapFields.{places, link, segment, words_in_use}
use Rattle.f11_header.proofs.HeaderFacts.{header_facts}
use Rattle.f11_volume.specs.home.Home.{HomeFields}
use Rattle.f11_volume.specs.map.MapArea.{run_at, runs_of, blocks_in}
use Rattle.f11_index.specs.Calls.{SetsBit}
use Rattle.f11_index.specs.Growth.{with_header}
use Rattle.f11_volume.specs.map.HeaderBlock.{segment_number, link_of, blocks_named}
use Rattle.f11_index.specs.IndexFile.{Index, index_of, slots, is_in_use, free_slots_in as free_in_index}
use Rattle.f11_index.specs.Slots.{IsLeastFree}
use Rattle.f11_index.specs.Table.{Table, table_in, table_of, last_sequence, IsFile, IsWholeFile, first}
use Rattle.f11_store.specs.Changes.{new_file, file_created, next_sequence, with_file, with_new_file, with_slots}
use Rattle.f11_store.specs.File.{File, no_file}
use Rattle.f11_store.specs.Store.{Store, least_free, free_slots}
use Rattle.f11_store.specs.declared.callers.Uic.{Uic}
use Rattle.f11_store.specs.declared.files.FileId.{FileId}
use Rattle.f11_volume.specs.Contents.{file_of, headers_reached, pointer_count, room_left}
use Rattle.f11_volume.specs.Sound.{HasSoundVolume}
use Rattle.f11_volume.specs.Volume.{Volume, volume_of}
use Rattle.f11_volume.proofs.FileLemmas.{image-files, reached-are}
use Rattle.f11_writes.specs.Kept.{file_in}
use Rattle.f11_writes.specs.Worked.{IsNewHeader, with_new_header}
use Rattle.f11_writes.proofs.HeaderLemmas.{unused-keeps}
use Rattle.f11_writes.proofs.MadeLemmas.{two, here-now, is-file, one-header, makes-file}
use Rattle.f11_image_store.specs.Allocation.{named_by, KeepsBlocks}
use Rattle.f11_image_store.specs.ExtensionLaws.{SlotIsTaken}
use Rattle.f11_image_store.specs.FieldLaws.{SaysBut}
use Rattle.f11_image_store.specs.NewFileLaws.{FreeSlotsAreStored, IsNewFirst, WritesNewFirst, EntersNewFile}
use Rattle.f11_image_store.specs.SlotLaws.{with_last, with_use}
use Rattle.f11_image_store.specs.StoreOf.{as_seen, store_of}
use Rattle.f11_image_store.proofs.AllocationLemmas.{named-live, named-others, named-unused}
use Rattle.f11_image_store.proofs.FieldLemmas.{says-written}
use Rattle.f11_image_store.proofs.InstanceLemmas.{unused-given, file-entered, last-at}
use Rattle.f11_image_store.proofs.StoreLemmas.{seen-own}
use Rattle.f11_store.proofs.StoreLemmas.{same-store}

pub free-stored : FreeSlotsAreStored
unfolding store_of free_slots table_in
free-stored image home = refl

pub least-stored : (image : Image) (home : HomeFields) (n : ℕ) → IsLeastFree (index_of image home) n → least_free (store_of image home) ≡ n
least-stored image home n least =
    ap (λ (l : List ℕ). slice_index l 0) (free-stored image home)
    ∙ get_or_from_slice_get (free_in_index (index_of image home)) 0 n 0 least.first

-- a slot that comes into use with its next sequence number
pub slot-taken : SlotIsTaken
slot-taken s n sequence next =
    same-store (with_use (with_last s n sequence) n true) (with_slots s (n ∷ []))
    (λ m. refl) refl refl (λ m. used m (cases_eq m n)) (λ m. last m (cases_eq m n)) refl refl refl refl
  where
    used : (m : ℕ) → (m ≡ n) ⊎ (m ≢ n) → cond (eqb m n) true (s.in_use m) ≡ ((eqb n m || false) || s.in_use m)
    used m (inl same) =
        ap (λ (b : Bool). cond b true (s.in_use m)) (eq-eqb m n same)
        ∙ sym (ap (λ (b : Bool). (b || false) || s.in_use m) (eq-eqb n m (sym same)))
    used m (inr apart) =
        ap (λ (b : Bool). cond b true (s.in_use m)) (ne_eqb m n apart)
        ∙ sym (ap (λ (b : Bool). (b || false) || s.in_use m) (ne_eqb n m (λ is. apart (sym is))))

    last : (m : ℕ) → (m ≡ n) ⊎ (m ≢ n) → cond (eqb m n) sequence (s.last m) ≡ cond (eqb n m || false) (next_sequence (s.last m)) (s.last m)
    last m (inl same) =
        ap (λ (b : Bool). cond b sequence (s.last m)) (eq-eqb m n same) ∙ next ∙ ap (λ (k : ℕ). next_sequence (s.last k)) (sym same)
        ∙ sym (ap (λ (b : Bool). cond (b || false) (next_sequence (s.last m)) (s.last m)) (eq-eqb n m (sym same)))
    last m (inr apart) =
        ap (λ (b : Bool). cond b sequence (s.last m)) (ne_eqb m n apart)
        ∙ sym (ap (λ (b : Bool). cond (b || false) (next_sequence (s.last m)) (s.last m)) (ne_eqb n m (λ is. apart (sym is))))

-- a map area without a pointer in use
pub runs-none : (area : List ℕ) → words_in_use area ≡ 0 → runs_of area ≡ []
unfolding runs_of
runs-none area none = ap (λ (w : ℕ). map (run_at area) (range_with_len 0 (w / 2))) none

module _ (id : FileId) (owned : Uic) (protects : ℕ) (ident attr empty block : List ℕ)
    (new : IsNewFirst id owned protects ident attr empty block) where
  -- an empty file with this ident area and these attributes
  says : SaysBut (λ f. record f { ident = ident; attr = attr }) empty block
  says =
      says-written (λ h. record h { ident = ident; attributes = attr }) (λ f. record f { ident = ident; attr = attr }) empty refl refl refl
      (λ f. refl) block new.holds new.says new.sum

  map-is : map_area block ≡ map_area empty
  map-is = says.map

  no-runs : runs_of (map_area block) ≡ []
  no-runs = ap runs_of map-is ∙ runs-none (map_area empty) new.blank.no_pointer

  pub names-none : blocks_named block ≡ []
  unfolding blocks_named
  names-none = ap blocks_in no-runs

  links-none : (link_of block).number ≡ 0
  unfolding link_of
  links-none = ap (λ (a : List ℕ). (link a).number) map-is ∙ ap (λ (i : FileId). i.number) new.blank.no_link

  first-segment : segment_number block ≡ 0
  unfolding segment_number
  first-segment = ap segment map-is ∙ new.blank.segment_is

  pub valid : IsHeader block id.number
  valid = record { number = says.number ∙ new.blank.number_is; holds = says.holds; sum = says.sum }

  sequence-is : file_sequence block ≡ id.sequence
  sequence-is = says.sequence ∙ new.blank.sequence_is

  room-is : places (map_area block) ≡ 102
  room-is = ap places map-is ∙ new.blank.room

  -- what it says of its file
  module _ (image : Image) (home : HomeFields) (is : HasSoundVolume image home) (within : id.number ≤ slots (index_of image home))
      (none : is_in_use (index_of image home) id.number ≡ false) where
    some : 0 < id.number
    some = omega (arith, valid.number, (header_facts block valid.holds).some_number)

    is-new : IsNewHeader (index_of image home) id.number block
    is-new = record { some = some; slot = within; unused = none; valid = valid; no_link = links-none; no_blocks = names-none }

    pub writes-first : WritesNewFirst id block home image (with_header image home id.number block)
    unfolding table_in
    writes-first =
        let wrote = unused-keeps image home is id.number block some within none in
        record {
          header = wrote;
          store = unused-given image (with_header image home id.number block) home id.number block wrote some within none
              ∙ ap (with_last (store_of image home) id.number) sequence-is;
        }

    module _ (after : Index) (bit : SetsBit true id.number (index_of image home) after) where
      abbrev second : Image
      second = with_new_header image home id.number block after

      abbrev u : Table
      u = table_of second home

      here : u.header id.number ≡ block
      here = here-now image home id.number block after is is-new bit

      file : IsFile u id.number
      file = is-file image home id.number block after is is-new bit first-segment

      whole : IsWholeFile u id.number
      whole = ((image-files second home (two image home id.number block after is is-new bit).slot.sound).each id.number file).whole

      -- each header names what it named, and the new one nothing
      pub entered-keeps : KeepsBlocks (volume_of image home) (volume_of second home)
      unfolding volume_of table_in
      entered-keeps =
          let one : Image = with_header image home id.number block in
          let wrote = two image home id.number block after is is-new bit in
          let first_slot = writes-first.header.slot in
          record {
            names = λ m. elim (cases_eq m id.number) [
              | inl same ↦ subst (λ (k : ℕ). named_by u k ≡ named_by (table_of image home) k) (sym same)
                  (named-live u id.number file.live ∙ ap blocks_named here ∙ names-none
                  ∙ sym (named-unused (table_of image home) id.number none))
              | inr away ↦
                  named-others (table_of one home) u id.number m wrote.slot.others away
                  ∙ named-others (table_of image home) (table_of one home) id.number m first_slot.others away
            ];
            size = ap (λ (v : Volume). v.size) wrote.slot.volume ∙ ap (λ (v : Volume). v.size) first_slot.volume;
            free = ap (λ (v : Volume). v.free) wrote.slot.volume ∙ ap (λ (v : Volume). v.free) first_slot.volume;
          }

      reached : headers_reached u id.number ≡ id.number ∷ []
      reached = reached-are 256 u id.number whole (first file) ∙ one-header image home id.number block after is is-new bit first-segment

      no-pointers : pointer_count u id.number ≡ 0
      no-pointers = ap (λ (b : List ℕ). length (runs_of (map_area b))) here ∙ ap length no-runs

      pointers-none : sum_by (pointer_count u) (headers_reached u id.number) ≡ 0
      pointers-none =
          let one = ap (sum_by (pointer_count u)) reached ∙ sum_by-cons (pointer_count u) id.number [] in omega (arith, one, no-pointers)

      room-is-all : room_left u (headers_reached u id.number) ≡ 102
      room-is-all =
          let left : places (map_area (u.header id.number)) - pointer_count u id.number ≡ 102 =
          let all = ap (λ (b : List ℕ). places (map_area b)) here ∙ room-is in omega (arith, all, no-pointers) in
          ap (room_left u) reached ∙ left

      file-made : file_in home id.number second ≡ new_file id.number id.sequence owned protects ident attr
      unfolding file_of
      file-made = λ i. record {
        sequence = (ap file_sequence here ∙ sequence-is) i;
        owner = (ap owner here ∙ ap (λ (f : File). f.owner) (says.file no_file) ∙ new.blank.owner_is) i;
        protection = (ap protection here ∙ ap (λ (f : File). f.protection) (says.file no_file) ∙ new.blank.protection_is) i;
        characteristics = (ap characteristics here ∙ ap (λ (f : File). f.characteristics) (says.file no_file)
            ∙ new.blank.no_characteristics) i;
        ident = (ap ident_area here ∙ ap (λ (f : File). f.ident) (says.file no_file)) i;
        attr = (ap attributes here ∙ ap (λ (f : File). f.attr) (says.file no_file)) i;
        held = reached i;
        pointers = pointers-none i;
        room = room-is-all i;
        blocks = (makes-file image home id.number block after is is-new bit first-segment).empty i;
      }

      pub enters-file : IsLeastFree (index_of image home) id.number
          → id.sequence ≡ next_sequence (last_sequence (table_of image home) id.number)
          → EntersNewFile id.number after owned protects ident attr home image (with_header image home id.number block) second
      unfolding store_of table_in
      enters-file least next =
          let s : Store = store_of image home in
          let wrote = two image home id.number block after is is-new bit in
          let made : ℕ → Store = λ k. with_new_file s k (file_created s k owned protects ident attr) in
          let new_last : id.sequence ≡ next_sequence (s.last id.number) = next
          ∙ ap next_sequence (sym (last-at (table_of image home) id.number some within)) in
          record {
            bit = wrote;
            store =
                file-entered (with_header image home id.number block) second home id.number after wrote file
                ∙ ap (λ (x : Store). with_use (with_file x id.number (Some (as_seen id.number (file_in home id.number second)))) id.number
                true) writes-first.store
                ∙ ap (λ (f : File). with_use (with_file (with_last s id.number id.sequence) id.number (Some f)) id.number true)
                (seen-own id.number (file_in home id.number second) (omega (arith, least.low)) ∙ file-made)
                ∙ ap (λ (x : Store). with_file x id.number (Some (new_file id.number id.sequence owned protects ident attr)))
                (slot-taken s id.number id.sequence new_last)
                ∙ ap (λ (q : ℕ). with_new_file s id.number (new_file id.number q owned protects ident attr)) new_last
                ∙ ap made (sym (least-stored image home id.number least));
          }
