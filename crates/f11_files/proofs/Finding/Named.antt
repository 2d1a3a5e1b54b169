-- The file of an identification in the store of a disk.
use Rattle.std.proofs.Common.{◌≡◌, ◌≢◌, ℕ, Bool, true, false, cond, IsTrue, List, [], Option, Some, None, is_none, unwrap_or, inl, inr}
use Rattle.std.proofs.Common.{refl, sym, ap, subst, ◌∙◌, leb, arith}
use Rattle.std.specs.Option.{option_and_then}
use Rattle.std.proofs.lemmas.Bool.{eq-eqb, ne_eqb}
use Rattle.std.specs.List.{slice_get}
use Rattle.f11_dev.specs.Disk.{Disk, with_transfer}
use Rattle.f11_dev.proofs.LookedLemmas.{looked_read}
use Rattle.f11_dev.specs.Image.{Image}
use Rattle.f11_header.specs.Fields.{file_sequence}
use Rattle.f11_home.specs.Home.{HomeFields}
use Rattle.f11_map.specs.HeaderBlock.{segment_number}
use Rattle.f11_index.specs.Headers.{headers_of}
use Rattle.f11_index.specs.IndexFile.{is_in_use, header_lbn}
use Rattle.f11_index.specs.Table.{Table, table_of, IsFile, last_sequence}
use Rattle.f11_chain.specs.Calls.{table}
use Rattle.f11_chain.proofs.AlongLemmas.{HoldsHeader-live}
use Rattle.f11_store.specs.Causes.{first_of, is_missing}
use Rattle.f11_store.specs.File.{File, no_file}
use Rattle.f11_store.specs.Pieces.{file_numbered}
use Rattle.f11_store.specs.Store.{Store, of_sequence, file_of, file_named}
use Rattle.f11_store.specs.declared.files.FileId.{FileId}
use Rattle.f11_volume.specs.Contents.{file_of as said_file}
use Rattle.f11_volume.specs.Sound.{HasSoundVolume}
use Rattle.f11_volume.proofs.FileLemmas.{file-headers-are, image-files}
use Rattle.f11_writes.specs.Kept.{file_in}
use Rattle.f11_files.specs.Finding.First.{IsFileOf, IsOther, HoldsFile}
use Rattle.f11_image_store.specs.StoreOf.{is_first, as_seen, file_at, store_of}
use Rattle.f11_store.specs.declared.refusals.Refusal.{Refusal}
use Rattle.f11_store.specs.declared.refusals.Refusal.TheVariants.{NoSuchFile}
use Rattle.f11_files.specs.Answers.{FailsToRead}
use Rattle.f11_files.specs.Operations.{file_causes, attr_in, attr_of}
use Rattle.f11_files.specs.Structure.{index_in, home_of, store_on, IsStructureFor}
use Rattle.f11_files.specs.declared.structure.Structure.{Structure}
use Rattle.f11_files.proofs.AnswerLemmas.{right-cause, right-damaged, reads-looked}
use Rattle.f11_files.proofs.Finding.First.{table-of, none-read, never-bad}
use Rattle.f11_image_store.proofs.StoreLemmas.{file-at, first-is-tested}

-- the store's file of a number
pub file-stored : (image : Image) (home : HomeFields) (n : ℕ) → (store_of image home).file n ≡ file_at image (table_of image home) n
unfolding store_of
file-stored image home n = refl

-- what is said of a file, but for its blocks, is said of it as it is seen
pub seen-same : {T : Type 0} (get : File → T) → ((f : File) → get (record f { blocks = [] }) ≡ get f) → (n : ℕ) (f : File)
    → get (as_seen n f) ≡ get f
seen-same get same n f = go (leb n 3)
  where
    go : (b : Bool) → get (cond b (record f { blocks = [] }) f) ≡ get f
    go true = same f
    go false = refl

-- its sequence number stands in its header
sequence-said : (image : Image) (t : Table) (n : ℕ) → (said_file image t n).sequence ≡ last_sequence t n
unfolding said_file
sequence-said image t n = refl

-- the file with a sequence number, or none
of-sequence : (f : File) (sequence : ℕ) → f.sequence ≡ sequence → of_sequence sequence f ≡ Some f
of-sequence f sequence is = ap (λ (b : Bool). cond b (Some f) None) (eq-eqb f.sequence sequence is)

not-sequence : (f : File) (sequence : ℕ) → f.sequence ≢ sequence → of_sequence sequence f ≡ None
not-sequence f sequence other = ap (λ (b : Bool). cond b (Some f) None) (ne_eqb f.sequence sequence other)

-- a file that is there holds its headers, and so does the store's file of its number
pub holds-headers : (image : Image) (home : HomeFields) (n : ℕ) → HasSoundVolume image home → IsFile (table_of image home) n
    → (file_in home n image).held ≡ headers_of (table_of image home) n
holds-headers image home n sound file =
    file-headers-are image (table_of image home) n ((image-files image home sound).each n file).whole

pub numbered-holds : (image : Image) (home : HomeFields) (n : ℕ) → HasSoundVolume image home → IsFile (table_of image home) n
    → (file_numbered (store_of image home) n).held ≡ headers_of (table_of image home) n
numbered-holds image home n sound file =
    ap (λ (o : Option File). (unwrap_or o no_file).held)
    (file-stored image home n
    ∙ file-at image (table_of image home) n (Some (as_seen n (file_in home n image))) (λ _. refl) (λ none. absurd (none file)))
    ∙ seen-same (λ (g : File). g.held) (λ g. refl) n (file_in home n image) ∙ holds-headers image home n sound file

module _ (image : Image) (home : HomeFields) (f : FileId) where
  abbrev t : Table
  t = table_of image home

  abbrev s : Store
  s = store_of image home

  abbrev seen : File
  seen = as_seen f.number (file_in home f.number image)

  sequence-seen : seen.sequence ≡ last_sequence t f.number
  sequence-seen = seen-same (λ (g : File). g.sequence) (λ g. refl) f.number (file_in home f.number image) ∙ sequence-said image t f.number

  -- there is one
  pub is-named : IsFile t f.number → last_sequence t f.number ≡ f.sequence → file_of s f ≡ Some seen
  is-named file sequence =
      ap (option_and_then (of_sequence f.sequence))
      (file-stored image home f.number ∙ file-at image t f.number (Some seen) (λ _. refl) (λ none. absurd (none file)))
      ∙ of-sequence seen f.sequence (sequence-seen ∙ sequence)

  pub named-is : IsFile t f.number → last_sequence t f.number ≡ f.sequence → (is_missing s f ≡ false) × (file_named s f ≡ seen)
  named-is file sequence =
      let here = is-named file sequence in (ap (λ (o : Option File). is_none o) here, ap (λ (o : Option File). unwrap_or o no_file) here)

  -- there is none
  pub not-named : ¬ (IsFile t f.number × (last_sequence t f.number ≡ f.sequence)) → is_missing s f ≡ true
  not-named none = go (is_first t f.number) refl
    where
      go : (b : Bool) → is_first t f.number ≡ b → is_missing s f ≡ true
      go true is =
          let file = (first-is-tested t f.number).0 is in
          ap (λ (o : Option File). is_none (option_and_then (of_sequence f.sequence) o))
          (file-stored image home f.number ∙ file-at image t f.number (Some seen) (λ _. refl) (λ not. absurd (not file)))
          ∙ ap (λ (o : Option File). is_none o) (not-sequence seen f.sequence (λ same. none (file, sym sequence-seen ∙ same)))
      go false is =
          ap (λ (o : Option File). is_none (option_and_then (of_sequence f.sequence) o))
          (file-stored image home f.number
          ∙ file-at image t f.number None (λ file. let no : true ≡ false = sym ((first-is-tested t f.number).1 file) ∙ is in absurd cc)
          (λ _. refl))

module _ (s : Structure) (f : FileId) (disk : Disk) (for : IsStructureFor s disk) (honest : IsTrue disk.honest) where
  -- a file that was found
  pub found-named : IsFileOf f (index_in s) disk → (is_missing (store_of disk.image (home_of s)) f ≡ false)
      × (file_named (store_of disk.image (home_of s)) f ≡ as_seen f.number (file_in (home_of s) f.number disk.image))
  found-named is =
      let same : table (index_in s) disk ≡ table_of disk.image (home_of s) = table-of s disk for honest in
      named-is disk.image (home_of s) f (subst (λ (t : Table). IsFile t f.number) same is.file)
      (ap (λ (t : Table). last_sequence t f.number) (sym same) ∙ is.sequence)

  pub none-named : ¬ IsFileOf f (index_in s) disk → is_missing (store_of disk.image (home_of s)) f ≡ true
  none-named none =
      let same : table_of disk.image (home_of s) ≡ table (index_in s) disk = sym (table-of s disk for honest) in
      not-named disk.image (home_of s) f
      (λ is. none record {
        file = subst (λ (t : Table). IsFile t f.number) same is.0;
        sequence = ap (λ (t : Table). last_sequence t f.number) (sym same) ∙ is.1;
      })

  -- so it is the first cause against a request for it
  pub missing-first : ¬ IsFileOf f (index_in s) disk → first_of (file_causes (store_on s disk) f) ≡ Some NoSuchFile
  missing-first none = ap (λ (b : Bool). cond b (Some NoSuchFile) None) (none-named none)

-- another header was read than that of the file
pub read-refused : (s : Structure) (f : FileId) (lbn : ℕ) (block : List ℕ) (old new : Disk) → IsStructureFor s old
    → is_in_use (index_in s) f.number ≡ true → lbn ≡ header_lbn (index_in s) f.number
    → new ≡ with_transfer true old → (IsTrue old.honest → slice_get old.image lbn ≡ Some block) → (r : Refusal) → IsOther f block r
    → FailsToRead false (file_causes (store_on s old) f) 1 r old new
read-refused s f lbn block old new for in_use at counts gives r other = go other
  where
    Fails : Refusal → Type 0
    Fails = λ r. FailsToRead false (file_causes (store_on s old) f) 1 r old new

    go : IsOther f block r → Fails r
    go (inl none) = subst Fails (sym none.0) record {
      right = right-cause _ _ _ (λ is. omega (arith, is)) (λ is. omega (arith, is)) refl
          (λ honest. missing-first s f old for honest (none-read (index_in s) f lbn block old new in_use at counts gives none.1 honest));
      reads = reads-looked (looked_read old new counts);
    }
    go (inr bad) = subst Fails (sym bad.0) record {
      right = right-damaged _ _ (never-bad s f lbn block old new for in_use at counts gives bad.1 bad.2);
      reads = reads-looked (looked_read old new counts);
    }

-- what the header of a file says of it is what the store does
attr-said : (image : Image) (t : Table) (n : ℕ) → attr_in (t.header n) ≡ attr_of (said_file image t n)
unfolding said_file
attr-said image t n = refl

-- a file's first header in hand
module _ (s : Structure) (f : FileId) (block : List ℕ) (disk : Disk) (for : IsStructureFor s disk)
    (holds : HoldsFile (index_in s) f block disk) (honest : IsTrue disk.honest) where
  pub block-is : block ≡ (table_of disk.image (home_of s)).header f.number
  block-is = holds.header.block_is honest ∙ ap (λ (t : Table). t.header f.number) (table-of s disk for honest)

  pub is-file : IsFileOf f (index_in s) disk
  is-file = record {
    file = record {
      live = HoldsHeader-live (index_in s) f.number block disk holds.header honest;
      first = ap segment_number (sym (holds.header.block_is honest)) ∙ holds.is_first.first;
    };
    sequence = ap file_sequence (sym (holds.header.block_is honest)) ∙ holds.is_first.sequence;
  }

  pub no-file-cause : first_of (file_causes (store_on s disk) f) ≡ None
  no-file-cause = ap (λ (b : Bool). cond b (Some NoSuchFile) None) (found-named s f disk for honest is-file).0

  pub held-named : file_named (store_on s disk) f ≡ as_seen f.number (file_in (home_of s) f.number disk.image)
  held-named = (found-named s f disk for honest is-file).1

  pub attr-is : attr_in block ≡ attr_of (file_named (store_on s disk) f)
  attr-is =
      ap attr_in block-is ∙ attr-said disk.image (table_of disk.image (home_of s)) f.number
      ∙ sym (seen-same attr_of (λ g. refl) f.number (file_in (home_of s) f.number disk.image)) ∙ ap attr_of (sym held-named)

-- a file whose first header is in hand is there
pub there : (s : Structure) (f : FileId) (block : List ℕ) (disk : Disk) → IsStructureFor s disk → HoldsFile (index_in s) f block disk
    → IsTrue disk.honest → IsFile (table_of disk.image (home_of s)) f.number
there s f block disk for holds honest =
    subst (λ (t : Table). IsFile t f.number) (table-of s disk for honest) (is-file s f block disk for holds honest).file
