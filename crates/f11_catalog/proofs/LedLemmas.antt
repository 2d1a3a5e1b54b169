-- The directories whose slots aren't in use, and to which others lead, one after another.
use Rattle.std.proofs.Common.{◌≡◌, ◌⊎◌, ◌+◌, ◌-◌, ◌<◌, ◌≤◌, ◌||◌, ◌&&◌, ◌==◌, not, ℕ, Bool, true, false, IsTrue, List, [], ◌∷◌}
use Rattle.std.proofs.Common.{Option, Some, None, cond, refl, sym, ap, subst, ◌∙◌, inl, inr, arith}
use Rattle.std.proofs.Math.Bool.{or-true}
use Rattle.std.proofs.lemmas.Bool.{cases_Bool, eq-eqb}
use Rattle.std.proofs.lemmas.List.Folds.{list_any-append}
use Rattle.std.specs.Cmp.Derive.{both_true}
use Rattle.f11_chain.specs.Calls.{FindsNoFile, table}
use Rattle.f11_dev.specs.Disk.{Disk}
use Rattle.f11_dev.specs.Image.{Image}
use Rattle.f11_header.specs.Fields.{file_sequence, ident_area}
use Rattle.f11_image_store.proofs.StoreLemmas.{first-is-tested}
use Rattle.f11_image_store.specs.StoreOf.{is_first}
use Rattle.f11_index.specs.IndexFile.{Index, slots}
use Rattle.f11_index.specs.Table.{IsFile, Table, table_in}
use Rattle.f11_reader.proofs.ReadLemmas.{holds-on}
use Rattle.f11_reader.specs.Reading.{FindsNone, OpensFile, OpensSlot, header_in_hand, id_in_hand}
use Rattle.f11_reader.specs.declared.file.FileReader.{FileReader}
use Rattle.f11_store.specs.File.{File, no_file}
use Rattle.f11_store.specs.Directory.{entries_of}
use Rattle.f11_store.specs.declared.files.FileId.{FileId}
use Rattle.f11_store.specs.declared.refusals.Refusal.TheVariants.{NotDirectory}
use Rattle.f11_volume.specs.Contents.{file_of}
use Rattle.f11_volume.specs.Notes.{IsIdOf}
use Rattle.f11_catalog.specs.AllDirectories.{DirectoryAt, all_directories, directory_by, id_at, is_named, led_directories, led_directory}
use Rattle.f11_catalog.specs.AllDirectories.{name_in, named_directories, other_directories, own_directories, unused_directory}
use Rattle.f11_catalog.specs.AllFiles.{AreLed, is_led}
use Rattle.f11_catalog.specs.DirectoryNames.{directory_called}
use Rattle.f11_catalog.specs.Facts.{is_directory_header}
use Rattle.f11_catalog.specs.GoingOver.{FindsLed, FindsNoLed, IsUnderItsName, OpensNamed, at_hand}
use Rattle.f11_catalog.specs.Lines.{names_directory}
use Rattle.f11_catalog.specs.Records.{Reads, file_found, file_named, file_unused, is_id_of_file, records_found, records_to_come}
use Rattle.f11_catalog.specs.Records.{IsReadingRecords, index_by}
use Rattle.std.specs.Option.{option_or}
use Rattle.std.specs.Prelude.{unwrap_or}
use Rattle.f11_catalog.specs.Steps.{EntersNone, is_met}
use Rattle.f11_catalog.specs.declared.directory_name.DirectoryName.{DirectoryName}
use Rattle.f11_catalog.specs.declared.walk.state.Numbers.{Numbers}
use Rattle.f11_catalog.specs.declared.walk.state.OpenDirectory.{OpenDirectory}
use Rattle.f11_catalog.proofs.ComingLemmas.{id-passes, named-none, tested-id}
use Rattle.f11_catalog.proofs.DirectoryLemmas.{readable-names, refused-none}
use Rattle.f11_catalog.proofs.GoingLemmas.{by-other, called, takes-behind}
use Rattle.f11_catalog.proofs.ListingLemmas.{reads-none, reads-then}
use Rattle.f11_catalog.proofs.OpenLemmas.{OpensDirectory, begins, is-refused}
use Rattle.f11_catalog.proofs.ScanLemmas.{SeesNone, among-numbers, none-first, none-here, sees-front, sees-on}
use Rattle.f11_catalog.proofs.SlotLemmas.{slot-of}

-- The file with an identification whose slot isn't in use.
module _ (wide : Index) (image : Image) (t : Table) (id : FileId) where
  abbrev other : Option File
  other = file_named image (table_in image wide) id

  abbrev chosen : Bool → Option File
  chosen used = cond used None other

  -- there is none where one has it whose slot is
  pub unused-none : is_id_of_file t id ≡ true → file_unused wide image t id ≡ None
  unused-none used = ap chosen used

  -- else it is the one that the other index file has
  pub unused-is : is_id_of_file t id ≡ false → file_unused wide image t id ≡ other
  unused-is free = ap chosen free

  -- where that has no directory there is none
  pub unused-other : names_directory other ≡ false → names_directory (file_unused wide image t id) ≡ false
  unused-other none = elim (cases_Bool (is_id_of_file t id)) [
    | inl used ↦ ap names_directory (unused-none used)
    | inr free ↦ ap names_directory (unused-is free) ∙ none
  ]

  -- where there is one, that has it, and no file has the identification whose slot is in use
  pub unused-directory : names_directory (file_unused wide image t id) ≡ true
      → (is_id_of_file t id ≡ false) × (names_directory other ≡ true)
  unused-directory names = elim (cases_Bool (is_id_of_file t id)) [
    | inl used ↦ let no : false ≡ true = sym (ap names_directory (unused-none used)) ∙ names in absurd cc
    | inr free ↦ (free, sym (ap names_directory (unused-is free)) ∙ names)
  ]

-- a directory's identification is that of a file
names-id : (image : Image) (t : Table) (id : FileId) → names_directory (file_named image t id) ≡ true → is_id_of_file t id ≡ true
names-id image t id names = elim (cases_Bool (is_id_of_file t id)) [
  | inl passes ↦ passes
  | inr fails ↦
      let no : false ≡ true =
      sym (ap (λ (b : Bool). names_directory (cond b (Some (file_of image t id.number)) None)) fails) ∙ names in absurd cc
]

-- A slot was looked at, whether or not it is in use.
module _ (index wide : Index) (n : ℕ) (old mid : Disk) where
  abbrev t : Table
  t = table index old

  abbrev u : Table
  u = table wide old

  abbrev unused : FileId → Option File
  unused id = file_unused wide old.image t id

  -- no file's first header is in it
  pub slot-unused-none : FindsNoFile wide n old mid → EntersNone (λ image t. unused_directory wide image t n) index old mid
  slot-unused-none none = record {
    none = λ honest.
        by-other wide n old mid (unused (id_at u n)) (id_at u n)
        (unused-other wide old.image t (id_at u n) (ap names_directory (named-none old.image u (id_at u n)
        (λ m is. none.no_file honest (subst (λ (k : ℕ). IsFile u k) (sym is.number) is.file)))))
        (name_in (ident_area (u.header n)));
    reads = (_, none.looked);
  }

  -- or a file's is
  module _ (file : FileReader) (opens : OpensSlot wide n file old mid) where
    abbrev id : FileId
    id = id_in_hand file

    abbrev name : Option (List ℕ)
    name = name_in (ident_area (header_in_hand file))

    unused-slot : IsTrue old.honest → unused_directory wide old.image t n ≡ directory_by (unused id) id name
    unused-slot honest =
        let header : u.header n ≡ header_in_hand file = ap u.header (sym opens.number) ∙ sym (opens.opens.header_is honest) in
        let its-id : id_at u n ≡ id =
        ap (id_at u) (sym opens.number)
        ∙ ap (λ (h : List ℕ). record { number = file.number; sequence = file_sequence h; volume = 0 })
        (sym (opens.opens.header_is honest)) in
        ap (λ (i : FileId). directory_by (unused i) i (name_in (ident_area (u.header n)))) its-id
        ∙ ap (λ (h : List ℕ). directory_by (unused id) id (name_in (ident_area h))) header

    no-directory : (new : Disk) → Reads old new 0 → (IsTrue old.honest → names_directory (unused id) ≡ false)
        → EntersNone (λ image t. unused_directory wide image t n) index old new
    no-directory new reads none = record {
      none = λ honest. unused-slot honest ∙ by-other wide n old mid (unused id) id (none honest) name;
      reads = reads;
    }

    -- which has no name, or is no directory
    pub slot-unused-other : (name ≡ None) ⊎ (is_directory_header (header_in_hand file) ≡ false)
        → EntersNone (λ image t. unused_directory wide image t n) index old mid
    slot-unused-other (inl nameless) = record {
      none = λ honest. unused-slot honest ∙ ap (directory_by (unused id) id) nameless;
      reads = (_, opens.opens.looked);
    }
    slot-unused-other (inr fails) =
        no-directory mid (_, opens.opens.looked) (λ honest. unused-other wide old.image t id
        (refused-none (file_named old.image u id) NotDirectory (is-refused wide id file old mid opens.opens fails honest)))

    -- or it is in use
    pub slot-in-use : (used : FileReader) (new : Disk) → OpensFile index id used mid new
        → EntersNone (λ image t. unused_directory wide image t n) index old new
    slot-in-use used new found =
        no-directory new (reads-then (_, opens.opens.looked) (_, found.looked)) (λ honest.
        ap names_directory (unused-none wide old.image t id (id-passes t id used.number
        (subst (λ (i : Image). IsIdOf (table_in i index) id used.number) opens.opens.looked.image
        (found.is_id (opens.opens.looked.honest ∙ honest))))))

    -- or it isn't, and is a directory under its own name
    pub slot-unused-opens : (new : Disk) → FindsNone index id mid new → (hand : OpenDirectory) → IsUnderItsName file false hand
        → OpensNamed (λ image t. unused_directory wide image t n) index wide hand old new
    slot-unused-opens new none hand under = record {
      one = λ honest.
          unused-slot honest
          ∙ ap (directory_by (unused id) id) under.named
          ∙ ap (λ (b : Bool). cond b (called (directory_called under.words) id ∷ []) [])
          (ap names_directory (unused-is wide old.image t id (free honest)) ∙ readable-names (file_named old.image u id)
          (all.readable honest))
          ∙ ap (λ (name : DirectoryName). called name id ∷ []) (sym under.name)
          ∙ ap (λ (id : FileId). called hand.name id ∷ []) (sym under.id);
      takes = record {
        reading = subst (λ (b : Bool). IsReadingRecords (index_by b index wide) hand.found.directory new) (sym under.in_use)
            (holds-on none.looked all.reading);
        records = λ honest.
            ap (λ (b : Bool). records_to_come (index_by b index wide) old hand.found.directory) under.in_use
            ∙ all.records honest
            ∙ ap (λ (o : Option File). entries_of (unwrap_or o no_file)) (sym (found-is honest))
            ∙ ap (records_found wide old.image t) (sym under.id);
        reads = reads-then (_, opens.opens.looked) (_, none.looked);
      };
    }
      where
        all : OpensDirectory wide id hand.found.directory old mid
        all = begins wide id file old mid opens.opens hand.found.directory under.begins

        no-file : IsTrue old.honest → (m : ℕ) → ¬ IsIdOf t id m
        no-file honest m is =
            none.none (opens.opens.looked.honest ∙ honest) m
            (subst (λ (i : Image). IsIdOf (table_in i index) id m) (sym opens.opens.looked.image) is)

        free : IsTrue old.honest → is_id_of_file t id ≡ false
        free honest = elim (cases_Bool (is_id_of_file t id)) [
          | inl used ↦ absurd (no-file honest id.number (tested-id t id used))
          | inr so ↦ so
        ]

        found-is : IsTrue old.honest → file_found wide old.image t id ≡ file_named old.image u id
        found-is honest = ap (λ (o : Option File). option_or o (file_named old.image u id)) (named-none old.image t id (no-file honest))

-- A number was looked at, of those to which directories lead.
module _ (index wide : Index) (led known : ℕ → Bool) (n : ℕ) (old new : Disk) where
  abbrev if_led : Bool → Image → Table → List DirectoryAt
  if_led so image t = cond so (unused_directory wide image t n) []

  -- it is one of these, and isn't known
  pub led-opens : (led n && not (known n)) ≡ true → (hand : OpenDirectory)
      → OpensNamed (λ image t. unused_directory wide image t n) index wide hand old new
      → OpensNamed (λ image t. led_directory wide image t led known n) index wide hand old new
  led-opens so hand opens = record {
    one = λ honest. ap (λ (b : Bool). if_led b old.image (table index old)) so ∙ opens.one honest;
    takes = opens.takes;
  }

  pub led-none : (led n && not (known n)) ≡ true → EntersNone (λ image t. unused_directory wide image t n) index old new
      → EntersNone (λ image t. led_directory wide image t led known n) index old new
  led-none so none = record {
    none = λ honest. ap (λ (b : Bool). if_led b old.image (table index old)) so ∙ none.none honest;
    reads = none.reads;
  }

-- or it isn't
pub not-led : (index wide : Index) (led known : ℕ → Bool) (n : ℕ) (disk : Disk) → (led n && not (known n)) ≡ false
    → EntersNone (λ image t. led_directory wide image t led known n) index disk disk
not-led index wide led known n disk so = record {
  none = λ honest. ap (λ (b : Bool). cond b (unused_directory wide disk.image (table index disk) n) []) so;
  reads = reads-none disk;
}

-- So many slots were looked at, and none gives a directory.
module _ (known : ℕ → Bool) (index wide : Index) where
  abbrev pub given : (ℕ → Bool) → Image → Table → ℕ → List DirectoryAt
  given led image _ = led_directory wide image (table_in image index) led known

  module _ (first here : Numbers) (old now : Disk) (seen : SeesNone (given (is_met first)) wide first here old now) where
    abbrev left : (ℕ → Bool) → Numbers → List DirectoryAt
    left led numbers =
        led_directories wide old.image (table index old) led known numbers.next ((table wide old).slots + 1 - numbers.next)

    -- nor do others
    pub finds-no-led : slots wide < here.next → is_met here ≡ is_met first → FindsNoLed known index wide first here old now
    finds-no-led past same = record {
      none = λ honest. none-first given (is_met first) wide first here old now seen past honest;
      ended = λ _. ap (λ (f : ℕ → Bool). left f here) same ∙ none-here given (is_met first) wide first here old now seen past;
      forward = seen.forward;
      reads = seen.reads;
    }

    -- or one more is looked at
    module _ (later : Numbers) (inside : here.next ≤ slots wide) (on : later.next ≡ here.next + 1) (met : ℕ → Bool) (n : ℕ)
        (same-met : met ≡ is_met first) (same-n : n ≡ here.next) where
      -- which gives one
      pub finds-led : is_met later ≡ is_met first → (hand : OpenDirectory) (new : Disk)
          → OpensNamed (λ image t. led_directory wide image t met known n) index wide hand now new
          → FindsLed known index wide first later hand old new
      finds-led same hand new opens = record {
        next = λ honest.
            sees-front given (is_met first) wide first here old now seen later inside on met n same-met same-n (at_hand hand ∷ []) opens.one
            honest
            ∙ ap (λ (f : ℕ → Bool). at_hand hand ∷ left f later) (sym same);
        forward = omega (arith, seen.forward, on);
        takes = takes-behind index wide old now seen.reads hand new opens.takes;
      }

      -- or none
      pub sees-no-led : (new : Disk) → EntersNone (λ image t. led_directory wide image t met known n) index now new
          → SeesNone (given (is_met first)) wide first later old new
      sees-no-led new none =
          sees-on given (is_met first) wide first here old now seen later inside on met n same-met same-n new
          (record { none = none.none; reads = none.reads })

-- None is left out.
pub no-unused-left-out : (wide : Index) (image : Image) (t : Table) (master : FileId) (led : ℕ → Bool) (n : ℕ) (name : List ℕ)
    → AreLed wide image t master led → is_led wide image t master led n ≡ true
    → names_directory (file_unused wide image t (id_at (table_in image wide) n)) ≡ true
    → name_in (ident_area ((table_in image wide).header n)) ≡ Some name → is_named (all_directories wide image t master led) n ≡ true
no-unused-left-out wide image t master led n name are leads names has =
    let u : Table = table_in image wide in
    let id : FileId = id_at u n in
    let named : List DirectoryAt = named_directories wide image t master in
    let known : ℕ → Bool = is_named named in
    let own : List DirectoryAt = own_directories image t known 1 t.slots in
    let others : List DirectoryAt = led_directories wide image t led known 1 u.slots in
    let is : is_first u n ≡ true =
    (first-is-tested u n).1 (tested-id u id (names-id image u id (unused-directory wide image t id names).1)).file in
    let slot = slot-of image wide n is in
    list_any-append (λ d. d.id.number == n) named (other_directories wide image t led known)
    ∙ ap (λ b. is_named named n || b) (list_any-append (λ d. d.id.number == n) own others)
    ∙ elim (cases_Bool (known n)) [
      | inl met ↦ ap (λ b. b || (is_named own n || is_named others n)) met
      | inr unmet ↦
          let so : (led n && not (known n)) ≡ true = both_true (are.all n leads) (ap not unmet) in
          let one : led_directory wide image t led known n ≡ called (directory_called name) id ∷ [] =
          ap (λ (b : Bool). cond b (unused_directory wide image t n) []) so
          ∙ ap (directory_by (file_unused wide image t id) id) has
          ∙ ap (λ (b : Bool). cond b (called (directory_called name) id ∷ []) []) names in
          ap (λ b. is_named named n || (is_named own n || b))
          (among-numbers (λ d. d.id.number == n) (led_directory wide image t led known) n
          (ap (λ ds. is_named ds n) one ∙ ap (λ b. b || false) (eq-eqb n n refl)) u.slots 1 slot.0 slot.1)
          ∙ ap (λ b. is_named named n || b) (or-true (is_named own n))
          ∙ or-true (is_named named n)
    ]
