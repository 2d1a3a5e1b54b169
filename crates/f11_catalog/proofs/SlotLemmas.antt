-- The identification of a file by its number, and that none is left out by going over the slots.
use Rattle.std.proofs.Common.{◌≡◌, ◌↔◌, ◌+◌, ◌<◌, ◌≤◌, ◌||◌, ◌==◌, ℕ, Bool, true, false, List, [], ◌∷◌, Some, cond, refl}
use Rattle.std.proofs.Common.{ap, ◌∙◌, inl, inr, arith}
use Rattle.std.proofs.Math.Bool.{or-true}
use Rattle.std.proofs.lemmas.Bool.{cases_Bool, eq-eqb}
use Rattle.std.proofs.lemmas.List.Folds.{list_any-append}
use Rattle.f11_dev.specs.Image.{Image}
use Rattle.f11_header.specs.Fields.{ident_area}
use Rattle.f11_image_store.proofs.StoreLemmas.{first-is-tested}
use Rattle.f11_image_store.specs.StoreOf.{is_first}
use Rattle.f11_index.proofs.InUseLemmas.{in_use-slot, in_use-some}
use Rattle.f11_index.proofs.UsedLemmas.{all-used}
use Rattle.f11_index.specs.IndexFile.{Index, IsIndex, all_in_use, is_in_use}
use Rattle.f11_index.specs.Table.{Table, table_in}
use Rattle.f11_store.specs.Directory.{is_directory}
use Rattle.f11_store.specs.declared.files.FileId.{FileId}
use Rattle.f11_volume.specs.Contents.{file_of}
use Rattle.f11_volume.specs.Notes.{IsIdOf}
use Rattle.f11_catalog.specs.AllDirectories.{DirectoryAt, all_directories, directory_by, id_at, is_named, name_in, named_directories}
use Rattle.f11_catalog.specs.AllDirectories.{led_directories, other_directories, own_directories, own_directory}
use Rattle.f11_catalog.specs.DirectoryNames.{directory_called}
use Rattle.f11_catalog.specs.Laws.{IsFirstHeader}
use Rattle.f11_catalog.specs.Lines.{names_directory}
use Rattle.f11_catalog.specs.Records.{file_named, is_id_of_file}
use Rattle.f11_catalog.proofs.ComingLemmas.{id-passes, named-some, tested-id}
use Rattle.f11_catalog.proofs.GoingLemmas.{called}
use Rattle.f11_catalog.proofs.ScanLemmas.{among-numbers}

-- the identification of a file by its number is its own
its-own : (t : Table) (n : ℕ) → is_first t n ≡ true → IsIdOf t (id_at t n) n
its-own t n is = record { file = (first-is-tested t n).0 is; number = refl; sequence = refl; here = refl }

pub own-id : (t : Table) (n : ℕ) → is_first t n ≡ true → is_id_of_file t (id_at t n) ≡ true
own-id t n is = id-passes t (id_at t n) n (its-own t n is)

-- a file has a number from 1 to that of the last slot
pub slot-of : (image : Image) (index : Index) (n : ℕ) → is_first (table_in image index) n ≡ true
    → (1 ≤ n) × (n < 1 + (table_in image index).slots)
unfolding table_in
slot-of image index n is =
    let in-use : is_in_use index n ≡ true = ((first-is-tested (table_in image index) n).0 is).live.in_use in
    let some = in_use-some index n in-use in
    let few = in_use-slot index n in-use in
    (omega (arith, some), omega (arith, few))

-- no directory is left out
pub no-directory-left-out : (wide : Index) (image : Image) (index : Index) (master : FileId) (led : ℕ → Bool) (n : ℕ) (name : List ℕ)
    → is_first (table_in image index) n ≡ true → is_directory (file_of image (table_in image index) n) ≡ true
    → name_in (ident_area ((table_in image index).header n)) ≡ Some name
    → is_named (all_directories wide image (table_in image index) master led) n ≡ true
no-directory-left-out wide image index master led n name is directory has =
    let t : Table = table_in image index in
    let named : List DirectoryAt = named_directories wide image t master in
    let slot = slot-of image index n is in
    let names : names_directory (file_named image t (id_at t n)) ≡ true =
    ap names_directory (named-some image t (id_at t n) n (its-own t n is)) ∙ directory in
    let known : ℕ → Bool = is_named named in
    let others : List DirectoryAt = led_directories wide image t led known 1 (table_in image wide).slots in
    list_any-append (λ d. d.id.number == n) named (other_directories wide image t led known)
    ∙ ap (λ b. is_named named n || b) (list_any-append (λ d. d.id.number == n) (own_directories image t known 1 t.slots) others)
    ∙ elim (cases_Bool (known n)) [
      | inl met ↦ ap (λ b. b || (is_named (own_directories image t known 1 t.slots) n || is_named others n)) met
      | inr unmet ↦
          let own : own_directory image t known n ≡ called (directory_called name) (id_at t n) ∷ [] =
          ap (λ (b : Bool). cond b [] (directory_by (file_named image t (id_at t n)) (id_at t n) (name_in (ident_area (t.header n))))) unmet
          ∙ ap (directory_by (file_named image t (id_at t n)) (id_at t n)) has
          ∙ ap (λ (b : Bool). cond b (called (directory_called name) (id_at t n) ∷ []) []) names in
          ap (λ b. is_named named n || (b || is_named others n))
          (among-numbers (λ d. d.id.number == n) (own_directory image t known) n
          (ap (λ ds. is_named ds n) own ∙ ap (λ b. b || false) (eq-eqb n n refl)) t.slots 1 slot.0 slot.1)
          ∙ or-true (is_named named n)
    ]

-- by the index file that takes each slot as in use each valid first header is a file
pub each-first-header : (index : Index) (image : Image) (id : FileId) → IsIndex index
    → (is_id_of_file (table_in image (all_in_use index)) id ≡ true) ↔ IsFirstHeader index (table_in image (all_in_use index)) id
unfolding table_in
each-first-header index image id is = (
  λ passes. let of = tested-id (table_in image (all_in_use index)) id passes in
      record {
        some = in_use-some (all_in_use index) id.number of.file.live.in_use;
        slot = in_use-slot (all_in_use index) id.number of.file.live.in_use;
        valid = of.file.live.valid;
        first = of.file.first;
        sequence = of.sequence;
        here = of.here;
      },
  λ header. id-passes (table_in image (all_in_use index)) id id.number (record {
    file = record {
      live = record { in_use = all-used index is id.number header.some header.slot; valid = header.valid };
      first = header.first;
    };
    number = refl;
    sequence = header.sequence;
    here = header.here;
  }),
)
