-- A file whose first header was written with the map that it had.
use Rattle.std.proofs.Common.{◌≡◌, ◌≢◌, ◌↔◌, ◌⊎◌, ◌≤◌, ◌<◌, ◌-◌, inl, inr, ℕ, Bool, true, false, IsTrue, List, [], Some, option_map, refl}
use Rattle.std.proofs.Common.{ap, sym, subst, ◌∙◌, length, map, get_or, arith}
use Rattle.std.specs.Prelude.{Contains}
use Rattle.std.specs.List.{sum_by}
use Rattle.std.proofs.lemmas.Bool.{cases_eq, cond-false}
use Rattle.std.proofs.lemmas.Grind.{get_or_default_zero}
use Rattle.std.proofs.lemmas.Option.{none-some, same_Some, slice_get_within, get_or_from_slice_get}
use Rattle.f11_dev.specs.Image.{Image}
use Rattle.f11_header.specs.Fields.{HeaderFields, header_fields, file_number, file_sequence, map_area, owner, protection, characteristics}
use Rattle.f11_header.specs.Fields.{attributes, ident_area}
use Rattle.f11_header.specs.Header.{IsHeader, holds_header, header_in}
use Rattle.f11_header.specs.MapFields.{places, link, segment}
use Rattle.f11_header.proofs.HeaderFacts.{header_in-held}
use Rattle.f11_volume.specs.home.Home.{HomeFields}
use Rattle.f11_volume.specs.map.MapArea.{runs_of, blocks_of}
use Rattle.f11_index.specs.Growth.{with_header}
use Rattle.f11_volume.specs.map.HeaderBlock.{segment_number, link_of, blocks_named}
use Rattle.f11_index.specs.Headers.{headers_of}
use Rattle.f11_index.specs.Table.{Table, table_of, IsFile, IsLive, IsHeaderOf, IsWholeFile, first}
use Rattle.f11_index.proofs.ChainLemmas.{live_of-header}
use Rattle.f11_index.proofs.HeadersLemmas.{listed-are, headers_from-some, live-some}
use Rattle.f11_volume.specs.chain.FileHeaders.{file_blocks}
use Rattle.f11_volume.proofs.chain.ChangeLemmas.{file-alike}
use Rattle.f11_store.specs.Changes.{with_delete_mark, with_replacement}
use Rattle.f11_store.specs.File.{File, with_contiguous, with_mark, without_contiguous}
use Rattle.f11_store.specs.Lags.{with_contiguous_mark, with_no_mark}
use Rattle.f11_store.specs.declared.callers.Uic.{Uic}
use Rattle.f11_store.specs.declared.files.Change.TheVariants as change
use Rattle.f11_volume.specs.Contents.{block_or_zeros, file_of, headers_reached, pointer_count, room_left}
use Rattle.f11_volume.specs.Sound.{HasSoundVolume}
use Rattle.f11_volume.specs.Volume.{Volume, volume_of}
use Rattle.f11_volume.proofs.FileLemmas.{image-files, reached-are, file-blocks-are}
use Rattle.f11_writes.specs.Kept.{file_in, said_of, WritesHeader}
use Rattle.f11_writes.specs.Volumes.{MayName, MayBecome, links_as_before}
use Rattle.f11_writes.proofs.HeaderLemmas.{rewrite-keeps, file-rewrite-keeps}
use Rattle.f11_writes.proofs.NameLemmas.{own-names}
use Rattle.f11_writes.proofs.OtherSlotLemmas.{live-was, turned}
use Rattle.f11_image_store.specs.Allocation.{ownership_in, AddsHeaders, GainsBlocksAs, KeepsBlocks}
use Rattle.f11_image_store.specs.FieldLaws.{said_by, SaysBut, WrittenSays, AttributesAreReplaced, IdentIsReplaced, ProtectionIsReplaced}
use Rattle.f11_image_store.specs.FieldLaws.{DeleteMarkIsSet, ContiguousMarkIsCleared, ContiguousMarkIsSet, ChangesFile}
use Rattle.f11_image_store.proofs.AllocationLemmas.{gains-none, keeps-slot, named-live, said-again}
use Rattle.f11_image_store.proofs.FileLemmas.{sum-same}
use Rattle.f11_image_store.proofs.InstanceLemmas.{first-alone, seen-stored, file-stored}

-- a file has a header
headers-some : (t : Table) (f : ℕ) → 0 < f → 0 < length (headers_of t f)
headers-some t f some = let list = ap length (headers_from-some 255 t f some) in omega (arith, list)

-- a block with another's map leads where that does
module _ (change : File → File) (old new : List ℕ) (says : SaysBut change old new) where
  pub segment-same : segment_number new ≡ segment_number old
  unfolding segment_number
  segment-same = ap segment says.map

  pub link-same : link_of new ≡ link_of old
  unfolding link_of
  link-same = ap link says.map

  pub blocks-same : blocks_named new ≡ blocks_named old
  unfolding blocks_named
  blocks-same = ap blocks_of says.map

module _ (image : Image) (home : HomeFields) (f : ℕ) (block : List ℕ) (change : File → File) (is : HasSoundVolume image home)
    (file : IsFile (table_of image home) f)
    (says : SaysBut change ((table_of image home).header f) block) where
  abbrev t : Table
  t = table_of image home

  valid : IsHeader block f
  valid = record { number = says.number ∙ file.live.valid.number; holds = says.holds; sum = says.sum }

  becomes : MayBecome (volume_of image home) f block
  unfolding volume_of
  becomes = record {
    valid = valid;
    good = λ _. record { valid = valid; sequence = says.sequence; segment = segment-same change (t.header f) block says };
    names = subst (MayName (volume_of image home) f) (sym (blocks-same change (t.header f) block says))
        (own-names (volume_of image home) f is.sound file.live);
    link = links_as_before file.live (link-same change (t.header f) block says);
  }

  abbrev new : Image
  new = with_header image home f block

  module _ (wrote : WritesHeader f block home image new) where
    abbrev u : Table
    u = table_of new home

    here : u.header f ≡ block
    here = wrote.index_file.header

    file-now : IsFile u f
    file-now = record {
      live = record {
        in_use = ap (λ (g : ℕ → Bool). g f) wrote.in_use ∙ file.live.in_use;
        valid = subst (λ (b : List ℕ). IsHeader b f) (sym here) valid;
      };
      first = ap segment_number here ∙ segment-same change (t.header f) block says ∙ file.first;
    }

    was-whole : IsWholeFile t f
    was-whole = ((image-files image home is).each f file).whole

    is-whole : IsWholeFile u f
    is-whole = ((image-files new home wrote.slot.sound).each f file-now).whole

    -- each header of the file has the map that it had
    map-stays : (m : ℕ) → IsHeaderOf t f m → map_area (u.header m) ≡ map_area (t.header m)
    map-stays m of = go (cases_eq m f)
      where
        go : (m ≡ f) ⊎ (m ≢ f) → map_area (u.header m) ≡ map_area (t.header m)
        go (inl same) =
            ap (λ (k : ℕ). map_area (u.header k)) same ∙ ap map_area here ∙ says.map ∙ ap (λ (k : ℕ). map_area (t.header k)) (sym same)
        go (inr apart) = ap map_area (wrote.slot.others.header m apart (live_of-header of).in_use)

    listed : (m : ℕ) → Contains (headers_of t f) m → map_area (u.header m) ≡ map_area (t.header m)
    listed m in_list = map-stays m (listed-are t f m was-whole in_list)

    same : (headers_of u f ≡ headers_of t f) × (file_blocks u f ≡ file_blocks t f)
    unfolding link_of blocks_named
    same =
        file-alike t u f (λ m in_list. ap (λ (a : List ℕ). (link a).number) (listed m in_list))
        (λ m in_list. ap blocks_of (listed m in_list))

    -- and names the blocks that it named
    pub field-keeps : KeepsBlocks (volume_of image home) (volume_of new home)
    unfolding volume_of
    field-keeps = record {
      size = ap (λ (v : Volume). v.size) wrote.slot.volume;
      names = keeps-slot f image new home wrote.slot
          (named-live u f file-now.live ∙ ap blocks_named here ∙ blocks-same change (t.header f) block says
          ∙ sym (named-live t f file.live));
      free = ap (λ (v : Volume). v.free) wrote.slot.volume;
    }

    -- and has no header more
    field-says : (ownership : Uic × ℕ) → ((m : ℕ) → IsHeaderOf u f m → IsHeaderOf t f m) → ownership_in block ≡ ownership_in (t.header f)
        → AddsHeaders f ownership t u
    field-says ownership were alike = record {
      file = file;
      added = λ m of. inl (were m of);
      live = λ m live. elim (cases_eq m f) [
        | inl here ↦ subst (IsLive u) (sym here) file-now.live
        | inr away ↦ live-was u t f (turned t u f wrote.slot.others) m away live
      ];
      alike = λ m live away. said-again (wrote.slot.others.header m away live.in_use);
      first = ap ownership_in here ∙ alike;
    }

    pub field-gains : (ownership : Uic × ℕ) → ((m : ℕ) → IsHeaderOf u f m ↔ IsHeaderOf t f m)
        → ownership_in block ≡ ownership_in (t.header f)
        → GainsBlocksAs f ownership 0 (volume_of image home) (volume_of new home)
    unfolding volume_of
    field-gains ownership headers alike =
        gains-none f ownership (volume_of image home) (volume_of new home) (λ m of. (headers m).1 of)
        (field-says ownership (λ m of. (headers m).0 of) alike) same.1
        field-keeps

    headers-were : headers_reached t f ≡ headers_of t f
    headers-were = reached-are 256 t f was-whole (first file)

    headers-stay : headers_reached u f ≡ headers_of t f
    headers-stay = reached-are 256 u f is-whole (first file-now) ∙ same.0

    pointers-stay : sum_by (pointer_count u) (headers_of t f) ≡ sum_by (pointer_count t) (headers_of t f)
    pointers-stay =
        sum-same (pointer_count u) (pointer_count t) (headers_of t f) (λ i m at.
        ap (λ (a : List ℕ). length (runs_of a))
        (listed m (i, slice_get_within (headers_of t f) i m at, get_or_from_slice_get (headers_of t f) i m m at)))

    room-stays : room_left u (headers_of t f) ≡ room_left t (headers_of t f)
    room-stays =
        let hs : List ℕ = headers_of t f in
        let some : 0 < length hs = headers-some t f (live-some file.live) in
        let within : length hs - 1 < length hs = omega (arith, some) in
        let last : ℕ = get_or hs (length hs - 1) 0 in
        ap (λ (a : List ℕ). places a - length (runs_of a))
        (listed last (length hs - 1, within, get_or_default_zero hs (length hs - 1) last within))

    seen-said : said_of home f new ≡ said_by block (said_of home f image)
    unfolding file_of
    seen-said = λ i. record {
      sequence = (ap file_sequence here ∙ says.sequence) i;
      owner = ap owner here i;
      protection = ap protection here i;
      characteristics = ap characteristics here i;
      ident = ap ident_area here i;
      attr = ap attributes here i;
      held = (headers-stay ∙ sym headers-were) i;
      pointers = (ap (sum_by (pointer_count u)) headers-stay ∙ pointers-stay ∙ ap (sum_by (pointer_count t)) (sym headers-were)) i;
      room = (ap (room_left u) headers-stay ∙ room-stays ∙ ap (room_left t) (sym headers-were)) i;
      blocks = [];
    }

    pub seen-changes : said_of home f new ≡ change (said_of home f image)
    unfolding file_of
    seen-changes = seen-said ∙ says.file (said_of home f image)

    pub file-changes : f ≢ 1 → file_in home f new ≡ change (file_in home f image)
    unfolding file_of
    file-changes other =
        let blocks = wrote.slot.contents f file-now other ∙ ap (map (block_or_zeros image)) same.1
        ∙ sym (file-blocks-are image t f was-whole) in
        let said : file_in home f new ≡ said_by block (file_in home f image) = λ i. record (seen-said i) { blocks = blocks i } in
        said ∙ says.file (file_in home f image)

pub changes-file : (image : Image) (home : HomeFields) (f : ℕ) (block : List ℕ) (change : File → File) → HasSoundVolume image home → 4 ≤ f
    → IsFile (table_of image home) f
    → SaysBut change ((table_of image home).header f) block → ChangesFile f block change home image (with_header image home f block)
changes-file image home f block change is late file says =
    let wrote = file-rewrite-keeps image home is f block f late (first file) (becomes image home f block change is file says) in
    record {
      header = wrote;
      store =
          file-stored image (with_header image home f block) home f block wrote says.sequence f change late (first file)
          (first (file-now image home f block change is file says wrote))
          (file-changes image home f block change is file says wrote (λ one. omega (arith, one, late)));
    }

-- the first header of the index file
pub changes-index : (image : Image) (home : HomeFields) (block : List ℕ) (change : File → File) → HasSoundVolume image home
    → SaysBut change ((table_of image home).header 1) block → ChangesFile 1 block change home image (with_header image home 1 block)
changes-index image home block change is says =
    let t : Table = table_of image home in
    let file : IsFile t 1 = is.framed.indexed.file.whole.file in
    let wrote = rewrite-keeps image home is 1 block file.live (becomes image home 1 block change is file says) (record {
      two = first-alone t 2 1 (λ two. omega (arith, two)) file;
      three = first-alone t 3 1 (λ three. omega (arith, three)) file;
      one = λ of. record { blocks = blocks-same change (t.header 1) block says; link = link-same change (t.header 1) block says };
    }) in
    record {
      header = wrote;
      store =
          seen-stored image (with_header image home 1 block) home 1 block wrote says.sequence 1 change (first file)
          (first (file-now image home 1 block change is file says wrote))
          (seen-changes image home 1 block change is file says wrote);
    }

-- what a block that holds a header says
pub held-from : (b : List ℕ) (h : HeaderFields) → header_in b ≡ Some h → IsTrue (holds_header b) × (header_fields b ≡ h)
unfolding header_in
held-from b h is = go (holds_header b) refl
  where
    go : (held : Bool) → holds_header b ≡ held → IsTrue (holds_header b) × (header_fields b ≡ h)
    go true held = (held, same_Some (header_fields b) h (sym (header_in-held b held) ∙ is))
    go false none = absurd (none-some h (sym (cond-false (holds_header b) _ _ none) ∙ is))

-- a file of which a header says this
abbrev as_said : HeaderFields → File → File
as_said h f =
    record f { owner = h.owner; protection = h.protection; characteristics = h.characteristics; ident = h.ident; attr = h.attributes }

-- fields were written
pub says-written : (fields : HeaderFields → HeaderFields) (change : File → File) (old : List ℕ)
    → (fields (header_fields old)).number ≡ file_number old
    → (fields (header_fields old)).sequence ≡ file_sequence old → (fields (header_fields old)).map ≡ map_area old
    → ((f : File) → as_said (fields (header_fields old)) f ≡ change (said_by old f)) → WrittenSays fields change old
says-written fields change old number sequence map file new held is sum =
    let now = held-from new (fields (header_fields old)) (is ∙ ap (option_map fields) (header_in-held old held)) in
    record {
      holds = now.0;
      sum = sum;
      number = ap (λ (h : HeaderFields). h.number) now.1 ∙ number;
      sequence = ap (λ (h : HeaderFields). h.sequence) now.1 ∙ sequence;
      map = ap (λ (h : HeaderFields). h.map) now.1 ∙ map;
      file = λ f. ap (λ (h : HeaderFields). as_said h f) now.1 ∙ file f;
    }

pub attributes-replaced : AttributesAreReplaced
attributes-replaced old attr =
    says-written (λ h. record h { attributes = attr }) (with_replacement (change.Attr attr)) old refl refl refl (λ f. refl)

pub ident-replaced : IdentIsReplaced
ident-replaced old ident =
    says-written (λ h. record h { ident = ident }) (with_replacement (change.Ident ident)) old refl refl refl (λ f. refl)

pub protection-replaced : ProtectionIsReplaced
protection-replaced old protects =
    says-written (λ h. record h { protection = protects }) (with_replacement (change.Protect protects)) old refl refl refl (λ f. refl)

pub delete-marked : DeleteMarkIsSet
delete-marked old =
    says-written (λ h. record h { characteristics = with_mark (characteristics old) }) with_delete_mark old refl refl refl (λ f. refl)

pub contiguous-set : ContiguousMarkIsSet
contiguous-set old =
    says-written (λ h. record h { characteristics = with_contiguous (characteristics old) }) with_contiguous_mark old refl refl refl
    (λ f. refl)

pub contiguous-cleared : ContiguousMarkIsCleared
contiguous-cleared old =
    says-written (λ h. record h { characteristics = without_contiguous (characteristics old) }) with_no_mark old refl refl refl (λ f. refl)
