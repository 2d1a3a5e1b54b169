-- What is found of a directory's records is what is noted of them.
use Rattle.std.proofs.Common.{◌≡◌, ◌<◌, ◌≤◌, ℕ, false, Some, List, [], ap, sym, subst, ◌∙◌, arith}
use Rattle.std.specs.List.{slice_get}
use Rattle.std.proofs.lemmas.Option.{slice_get-get_or, slice_get_within, same_Some}
use Rattle.std.proofs.lemmas.List.FromFn.{length-map-range_with_len, get_or-map-range_with_len}
use Rattle.f11_dev.specs.Image.{Image}
use Rattle.f11_rad50.specs.Name.{IsName}
use Rattle.f11_store.specs.Directory.{entries_of, entry_count, is_empty, record_at, record_id, record_name}
use Rattle.f11_store.specs.File.{File}
use Rattle.f11_volume.specs.Contents.{file_of}
use Rattle.f11_vfy.specs.Directory.Flaws.{EntersIn, HasFlaw, flaw_code}
use Rattle.f11_volume.specs.Notes.{IsVolumeNote, IsDirectory, IsRecord, IsIdOf, IsEntered, IsRepeated, blocks_lost, header_dead, orphan}
use Rattle.f11_volume.specs.Notes.{marked, not_closed, in_no_directory, names_no_file, name_repeated, no_name, not_contiguous}
use Rattle.f11_volume.specs.Volume.{Volume}
use Rattle.f11_vfy.specs.declared.directories.flaws.Flaw.{Flaw}
use Rattle.f11_vfy.specs.declared.directories.flaws.Flaw.TheVariants.{NoFile, Repeated, NoName}

entry-get : (f : File) (i : ℕ) → i < entry_count f → slice_get (entries_of f) i ≡ Some (record_at f.blocks i)
unfolding entries_of
entry-get f i below =
    slice_get-get_or (entries_of f) i [] (omega (arith, below, length-map-range_with_len (record_at f.blocks) 0 (entry_count f)))
    ∙ ap Some (get_or-map-range_with_len (record_at f.blocks) 0 (entry_count f) i i [] below (omega arith))

entry-within : (f : File) (i : ℕ) (bytes : List ℕ) → slice_get (entries_of f) i ≡ Some bytes → i < entry_count f
unfolding entries_of
entry-within f i bytes is =
    omega (arith, slice_get_within (entries_of f) i bytes is, length-map-range_with_len (record_at f.blocks) 0 (entry_count f))

pub flaw-low : (flaw : Flaw) → 7 ≤ flaw_code flaw
flaw-low NoFile = omega arith
flaw-low Repeated = omega arith
flaw-low NoName = omega arith

pub flaw-high : (flaw : Flaw) → flaw_code flaw ≤ 9
flaw-high NoFile = omega arith
flaw-high Repeated = omega arith
flaw-high NoName = omega arith

-- such a note is of a directory
pub noted-directory : (image : Image) (v : Volume) (code d i : ℕ) → IsVolumeNote image v code d i → 7 ≤ code → code ≤ 9
    → IsDirectory image v.table d
noted-directory image v code d i (blocks_lost low high run) is early = absurd (omega (arith, is))
noted-directory image v code d i (header_dead n dead) is early = absurd (omega (arith, is))
noted-directory image v code d i (orphan n live later none) is early = absurd (omega (arith, is))
noted-directory image v code d i (marked n file mark) is early = absurd (omega (arith, is))
noted-directory image v code d i (not_closed n file was) is early = absurd (omega (arith, is))
noted-directory image v code d i (in_no_directory n file none) is early = absurd (omega (arith, is))
noted-directory image v code d i (names_no_file f j bytes r none) is early = r.directory
noted-directory image v code d i (name_repeated f j bytes r again) is early = r.directory
noted-directory image v code d i (no_name f j bytes r none) is early = r.directory
noted-directory image v code d i (not_contiguous n file mark apart) is early = absurd (omega (arith, early))

module _ (image : Image) (v : Volume) (d : ℕ) (directory : IsDirectory image v.table d) where
  abbrev pub blocks : List (List ℕ)
  blocks = (file_of image v.table d).blocks

  abbrev pub count : ℕ
  count = entry_count (file_of image v.table d)

  record-here : (i : ℕ) → i < count → is_empty (record_at blocks i) ≡ false → IsRecord image v.table d i (record_at blocks i)
  record-here i below some = record { directory = directory; entry = entry-get (file_of image v.table d) i below; not_empty = some }

  record-below : (i : ℕ) (bytes : List ℕ) → IsRecord image v.table d i bytes → i < count
  record-below i bytes r = entry-within (file_of image v.table d) i bytes r.entry

  record-is : (i : ℕ) (bytes : List ℕ) → IsRecord image v.table d i bytes → bytes ≡ record_at blocks i
  record-is i bytes r = same_Some bytes (record_at blocks i) (sym r.entry ∙ entry-get (file_of image v.table d) i (record-below i bytes r))

  pub flaw-noted : (flaw : Flaw) (i : ℕ) → i < count → HasFlaw flaw v.table blocks i → IsVolumeNote image v (flaw_code flaw) d i
  flaw-noted NoFile i below has =
      names_no_file d i (record_at blocks i) (record-here i below has.0)
      (λ n id. has.1 (subst (λ (m : ℕ). IsIdOf v.table (record_id (record_at blocks i)) m) (sym id.number) id))
  flaw-noted Repeated i below has =
      name_repeated d i (record_at blocks i) (record-here i below has.0)
      (record {
        place = has.1.place;
        earlier = has.1.earlier;
        other = record_at blocks has.1.place;
        entry = record-here has.1.place (omega (arith, below, has.1.earlier)) has.1.not_empty;
        name = has.1.same;
      })
  flaw-noted NoName i below has = no_name d i (record_at blocks i) (record-here i below has.0) has.1

  some-entry : (i : ℕ) (bytes : List ℕ) → IsRecord image v.table d i bytes → is_empty (record_at blocks i) ≡ false
  some-entry i bytes r = subst (λ (b : List ℕ). is_empty b ≡ false) (record-is i bytes r) r.not_empty

  no-file-found : (i : ℕ) (bytes : List ℕ) → IsRecord image v.table d i bytes → ((n : ℕ) → ¬ IsIdOf v.table (record_id bytes) n)
      → HasFlaw NoFile v.table blocks i
  no-file-found i bytes r none = (
    some-entry i bytes r,
    subst (λ (b : List ℕ). ¬ IsIdOf v.table (record_id b) (record_id b).number) (record-is i bytes r)
        (none (record_id bytes).number),
  )

  repeated-found : (i : ℕ) (bytes : List ℕ) → IsRecord image v.table d i bytes → IsRepeated image v.table d i bytes
      → HasFlaw Repeated v.table blocks i
  repeated-found i bytes r again = (
    some-entry i bytes r,
    record {
      place = again.place;
      earlier = again.earlier;
      not_empty = some-entry again.place again.other again.entry;
      same = ap record_name (sym (record-is again.place again.other again.entry)) ∙ again.name ∙ ap record_name (record-is i bytes r);
    },
  )

  no-name-found : (i : ℕ) (bytes : List ℕ) → IsRecord image v.table d i bytes → ¬ IsName (record_name bytes)
      → HasFlaw NoName v.table blocks i
  no-name-found i bytes r none = (some-entry i bytes r, subst (λ (b : List ℕ). ¬ IsName (record_name b)) (record-is i bytes r) none)

  of-record : (e i : ℕ) (bytes : List ℕ) → e ≡ d → IsRecord image v.table e i bytes → IsRecord image v.table d i bytes
  of-record e i bytes same r = subst (λ (x : ℕ). IsRecord image v.table x i bytes) same r

  pub noted-flaw : (flaw : Flaw) (code e i : ℕ) → IsVolumeNote image v code e i → code ≡ flaw_code flaw → e ≡ d
      → (i < count) × HasFlaw flaw v.table blocks i
  noted-flaw flaw code e i (blocks_lost low high run) is same = absurd (omega (arith, is, flaw-low flaw))
  noted-flaw flaw code e i (header_dead n dead) is same = absurd (omega (arith, is, flaw-low flaw))
  noted-flaw flaw code e i (orphan n live later none) is same = absurd (omega (arith, is, flaw-low flaw))
  noted-flaw flaw code e i (marked n file mark) is same = absurd (omega (arith, is, flaw-low flaw))
  noted-flaw flaw code e i (not_closed n file was) is same = absurd (omega (arith, is, flaw-low flaw))
  noted-flaw flaw code e i (in_no_directory n file none) is same = absurd (omega (arith, is, flaw-low flaw))
  noted-flaw flaw code e i (not_contiguous n file mark apart) is same = absurd (omega (arith, is, flaw-high flaw))
  noted-flaw NoFile code e i (names_no_file f j bytes r none) is same =
      let here = of-record e i bytes same r in (record-below i bytes here, no-file-found i bytes here none)
  noted-flaw Repeated code e i (names_no_file f j bytes r none) is same = absurd (omega (arith, is))
  noted-flaw NoName code e i (names_no_file f j bytes r none) is same = absurd (omega (arith, is))
  noted-flaw NoFile code e i (name_repeated f j bytes r again) is same = absurd (omega (arith, is))
  noted-flaw Repeated code e i (name_repeated f j bytes r again) is same =
      let here = of-record e i bytes same r in
      (record-below i bytes here, repeated-found i bytes here (subst (λ (x : ℕ). IsRepeated image v.table x i bytes) same again))
  noted-flaw NoName code e i (name_repeated f j bytes r again) is same = absurd (omega (arith, is))
  noted-flaw NoFile code e i (no_name f j bytes r none) is same = absurd (omega (arith, is))
  noted-flaw Repeated code e i (no_name f j bytes r none) is same = absurd (omega (arith, is))
  noted-flaw NoName code e i (no_name f j bytes r none) is same =
      let here = of-record e i bytes same r in (record-below i bytes here, no-name-found i bytes here none)

  -- what the records enter
  pub enters-noted : (n : ℕ) → EntersIn v.table blocks count n → (e : IsEntered image v.table n) × (e.directory ≤ d)
  enters-noted n e = (
    record {
      directory = d;
      place = e.place;
      bytes = record_at blocks e.place;
      entry = record-here e.place e.below e.enters.0;
      names = e.enters.1;
    },
    omega arith,
  )

  pub enters-found : (n i : ℕ) (bytes : List ℕ) → IsRecord image v.table d i bytes → IsIdOf v.table (record_id bytes) n
      → EntersIn v.table blocks count n
  enters-found n i bytes r names = record {
    place = i;
    below = record-below i bytes r;
    enters = (some-entry i bytes r, subst (λ (b : List ℕ). IsIdOf v.table (record_id b) n) (record-is i bytes r) names);
  }
