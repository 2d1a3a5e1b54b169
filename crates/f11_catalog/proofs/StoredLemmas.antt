-- The files of the plain store, found by their identifications.
use Rattle.std.proofs.Common.{◌≡◌, ℕ, ◌==◌, ◌&&◌, Bool, true, false, List, [], Option, Some, None, cond, nat_le, option_map, unwrap_or}
use Rattle.std.proofs.Common.{refl, sym, ap, ◌∙◌}
use Rattle.std.proofs.lemmas.Bool.{eq-eqb, eqb-true}
use Rattle.std.specs.Option.{option_and_then, option_or}
use Rattle.f11_dev.specs.Image.{Image}
use Rattle.f11_volume.specs.home.Home.{HomeFields}
use Rattle.f11_image_store.specs.StoreOf.{as_seen, file_at, is_first, store_of}
use Rattle.f11_index.specs.IndexFile.{Index}
use Rattle.f11_index.specs.Table.{Table, last_sequence, table_in, table_of}
use Rattle.f11_store.specs.Directory.{entries_of, is_empty, record_id, record_name}
use Rattle.f11_store.specs.File.{File, no_file}
use Rattle.f11_store.specs.Store as store
use Rattle.f11_store.specs.declared.files.FileId.{FileId}
use Rattle.f11_volume.specs.Contents.{file_of}
use Rattle.f11_catalog.specs.Lines.{name_shown, named_line, record_line}
use Rattle.f11_catalog.specs.Laws.{file_stored, with_own_blocks}
use Rattle.f11_catalog.specs.Records.{file_found, file_named, is_id_of_file, records_of}
use Rattle.f11_catalog.specs.declared.line_form.LineForm.{LineForm}

-- a file as requests see it has its sequence number, and from file 4 on is what it is
seen-sequence : (n : ℕ) (f : File) → (as_seen n f).sequence ≡ f.sequence
seen-sequence n f = go (nat_le n 3)
  where
    go : (low : Bool) → (cond low (record f { blocks = [] }) f).sequence ≡ f.sequence
    go true = refl
    go false = refl

seen-alike : (n : ℕ) → nat_le n 3 ≡ false → (o : Option File) → option_map (as_seen n) o ≡ o
seen-alike n high None = refl
seen-alike n high (Some f) = ap (λ (low : Bool). Some (cond low (record f { blocks = [] }) f)) high

-- a file that is there is found if its sequence number is the one asked for
seen-if : (sequence n : ℕ) (f : File) (first : Bool)
    → option_and_then (store.of_sequence sequence) (cond first (Some (as_seen n f)) None)
    ≡ option_map (as_seen n) (cond (first && (f.sequence == sequence)) (Some f) None)
seen-if sequence n f false = refl
seen-if sequence n f true =
    ap (λ (k : ℕ). cond (k == sequence) (Some (as_seen n f)) None) (seen-sequence n f) ∙ go (f.sequence == sequence)
  where
    go : (same : Bool) → cond same (Some (as_seen n f)) None ≡ option_map (as_seen n) (cond same (Some f) None)
    go true = refl
    go false = refl

pub named-is-stored : (image : Image) (home : HomeFields) (id : FileId) → id.volume ≡ 0
    → store.file_of (store_of image home) id ≡ option_map (as_seen id.number) (file_named image (table_of image home) id)
unfolding store_of file_at file_of is_id_of_file
named-is-stored image home id here =
    seen-if id.sequence id.number f (is_first t id.number)
    ∙ ap (λ (b : Bool). option_map (as_seen id.number) (cond (b && (is_first t id.number && (f.sequence == id.sequence))) (Some f) None))
    (sym (eq-eqb id.volume 0 here))
  where
    t : Table
    t = table_of image home

    f : File
    f = file_of image t id.number

-- with the blocks of files 1 to 3 it is the one that the identification names
own-again : (image : Image) (t : Table) (n : ℕ) → with_own_blocks image t n (as_seen n (file_of image t n)) ≡ file_of image t n
own-again image t n = go (nat_le n 3)
  where
    go : (low : Bool) → cond low (record (cond low (record (file_of image t n) { blocks = [] }) (file_of image t n)) {
      blocks = (file_of image t n).blocks;
    }) (cond low (record (file_of image t n) { blocks = [] }) (file_of image t n)) ≡ file_of image t n
    go true = refl
    go false = refl

stored-again : (image : Image) (t : Table) (n : ℕ) (found : Bool)
    → option_map (with_own_blocks image t n) (option_map (as_seen n) (cond found (Some (file_of image t n)) None))
    ≡ cond found (Some (file_of image t n)) None
stored-again image t n true = ap (λ (f : File). Some f) (own-again image t n)
stored-again image t n false = refl

pub files-are-stored : (image : Image) (home : HomeFields) (id : FileId)
    → file_named image (table_of image home) id ≡ file_stored image (table_of image home) (store_of image home) id
unfolding is_id_of_file
files-are-stored image home id = by (id.volume == 0) refl
  where
    t : Table
    t = table_of image home

    by : (here : Bool) → (id.volume == 0) ≡ here
        → file_named image t id ≡ cond here (option_map (with_own_blocks image t id.number) (store.file_of (store_of image home) id)) None
    by true is =
        sym (ap (option_map (with_own_blocks image t id.number)) (named-is-stored image home id (eqb-true id.volume 0 is))
        ∙ stored-again image t id.number (is_id_of_file t id))
    by false is = ap (λ (b : Bool). cond (b && (is_first t id.number && (last_sequence t id.number == id.sequence)))
        (Some (file_of image t id.number)) None) is

-- from file 4 on it is the one that the identification names
stored-alike : (image : Image) (home : HomeFields) (id : FileId) → id.volume ≡ 0 → nat_le id.number 3 ≡ false
    → store.file_of (store_of image home) id ≡ file_named image (table_of image home) id
stored-alike image home id here high =
    named-is-stored image home id here ∙ seen-alike id.number high (file_named image (table_of image home) id)

pub listed-entries : (image : Image) (home : HomeFields) (id : FileId) → id.volume ≡ 0 → nat_le id.number 3 ≡ false
    → records_of image (table_of image home) id ≡ entries_of (store.file_named (store_of image home) id)
listed-entries image home id here high =
    ap (λ (o : Option File). entries_of (unwrap_or o no_file)) (sym (stored-alike image home id here high))

pub found-stored : (wide : Index) (image : Image) (home : HomeFields) (id : FileId) (f : File) → id.volume ≡ 0 → nat_le id.number 3 ≡ false
    → store.file_of (store_of image home) id ≡ Some f → file_found wide image (table_of image home) id ≡ Some f
found-stored wide image home id f here high is =
    ap (λ (o : Option File). option_or o (file_named image (table_in image wide) id)) (sym (stored-alike image home id here high) ∙ is)

pub shown-file : (form : LineForm) (wide : Index) (image : Image) (home : HomeFields) (r : List ℕ) → is_empty r ≡ false
    → (record_id r).volume ≡ 0
    → nat_le (record_id r).number 3 ≡ false
    → record_line form wide image (table_of image home) r
    ≡ named_line form (name_shown (record_name r)) (record_id r) (store.file_of (store_of image home) (record_id r))
    (file_named image (table_in image wide) (record_id r))
shown-file form wide image home r some here high =
    let other : Option File = file_named image (table_in image wide) (record_id r) in
    ap (λ (b : Bool). cond b []
    (named_line form (name_shown (record_name r)) (record_id r) (file_named image (table_of image home) (record_id r)) other))
    some
    ∙ ap (λ (f : Option File). named_line form (name_shown (record_name r)) (record_id r) f other)
    (sym (stored-alike image home (record_id r) here high))
