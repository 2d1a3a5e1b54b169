-- What the control block tells of a volume's size.
use Rattle.std.proofs.Common.{◌≡◌, ℕ, ◌*◌, ◌<◌, ◌≤◌, ◌&&◌, Bool, List, length, map, Option, Some, None, IfSome, option_map}
use Rattle.std.proofs.Common.{Result, Ok, Err, cond, refl, sym, ap, subst, ◌∙◌, inl, inr}
use Rattle.std.proofs.lemmas.Bool.{cases_lt, le-leb, le-ltb, lt-leb, lt-ltb}
use Rattle.std.proofs.Math.Bool.{and-false}
use Rattle.std.specs.Cmp.Derive.{both_true}
use Rattle.std.specs.List.{slice_get}
use Rattle.std.specs.Option.{ok_or, option_and_then}
use Rattle.std.specs.Prelude.{nat_le, nat_lt}
use Rattle.f11_catalog.proofs.ListingLemmas.{reads-then}
use Rattle.f11_catalog.specs.Records.{file_found}
use Rattle.f11_catalog.specs.chain.Calls.{table}
use Rattle.f11_dev.specs.Disk.{Disk}
use Rattle.f11_dev.specs.Image.{Image}
use Rattle.f11_home.specs.Home.{HomeFields}
use Rattle.f11_index.specs.IndexFile.{Index, all_in_use}
use Rattle.f11_index.specs.Table.{Table, table_of}
use Rattle.f11_reader.specs.Reading.{HasEnded, ReadsOn, contents_to_come}
use Rattle.f11_reader.specs.declared.file.FileReader.{FileReader}
use Rattle.f11_store.specs.File.{File}
use Rattle.f11_store.specs.declared.files.FileId.{FileId}
use Rattle.f11_store.specs.declared.refusals.Refusal.{Refusal}
use Rattle.f11_store.specs.declared.refusals.Refusal.TheVariants.{NoSuchFile}
use Rattle.f11_volume.specs.Contents.{block_or_zeros}
use Rattle.f11_volume.specs.Space.{bitmap_count, stated_size}
use Rattle.f11_commands.specs.AnyVolume.{FindsVolume}
use Rattle.f11_commands.specs.GetCommand.{LacksSought, OpensSought, file_identified, read_by}
use Rattle.f11_commands.specs.Size.{ReadsControl, ReadsSize, TellsWanted, bitmap_file_id, covers, first_block, if_above, size_in}
use Rattle.f11_commands.specs.Size.{size_stated}
use Rattle.f11_commands.specs.declared.get.sought.Sought.{Sought}
use Rattle.f11_commands.proofs.AnyVolumeLemmas.{index-of-volume, said-of-volume}

-- the storage bitmap file as it is identified
abbrev pub bitmap_file : Index → Image → Table → Result (FileId × File) Refusal
bitmap_file wide image t = file_identified wide image t bitmap_file_id

-- the file that was identified, if there is one
abbrev file_in : Result (FileId × File) Refusal → Option File
file_in (Ok identified) = Some identified.1
file_in (Err refusal) = None

identified-in : (id : FileId) (o : Option File) → o ≡ file_in (ok_or (option_map (λ file. (id, file)) o) NoSuchFile)
identified-in id (Some file) = refl
identified-in id None = refl

found-in : (wide : Index) (image : Image) (t : Table) (answer : Result (FileId × File) Refusal) → bitmap_file wide image t ≡ answer
    → size_stated wide image t ≡ option_and_then size_in (option_and_then first_block (file_in answer))
found-in wide image t answer is =
    ap (λ (o : Option File). option_and_then size_in (option_and_then first_block o))
    (identified-in bitmap_file_id (file_found wide image t bitmap_file_id) ∙ ap file_in is)

-- no volume states a size that has no such file
pub size-none : (index wide : Index) (refusal : Refusal) (old new : Disk) → LacksSought (bitmap_file wide) index refusal old new
    → ReadsSize index wide None old new
size-none index wide refusal old new lacks = record {
  size_is = λ honest. sym (found-in wide old.image (table index old) (Err refusal) (lacks.refused honest));
  reads = lacks.reads;
}

-- the storage bitmap file was found, and the size read that its first block states
pub size-read : (index wide : Index) (sought : Sought) (size : Option ℕ) (old mid new : Disk)
    → OpensSought (bitmap_file wide) index wide sought old mid
    → (by : Index) → by ≡ read_by index wide sought → ReadsControl by sought.file size mid new → ReadsSize index wide size old new
size-read index wide sought size old mid new opens by is reads = record {
  size_is = λ honest.
      reads.size_is (opens.reads.1.honest ∙ honest)
      ∙ ap (λ (x : Index). option_and_then size_in (slice_get (contents_to_come x mid sought.file) 0)) is
      ∙ ap (λ (bs : List (List ℕ)). option_and_then size_in (slice_get bs 0)) (opens.blocks_are honest)
      ∙ sym (found-in wide old.image (table index old) (Ok (opens.id, opens.file)) (opens.is honest));
  reads = reads-then opens.reads reads.reads;
}

-- the next block of a file was read, or it has none
module _ (by : Index) (file later : FileReader) (old new : Disk) where
  pub control-read : (block : List ℕ) → ReadsOn by file later block old new → (size : Option ℕ) → size ≡ size_in block
      → ReadsControl by file size old new
  control-read block reads size is = record {
    size_is = λ honest. is ∙ sym (ap (λ (bs : List (List ℕ)). option_and_then size_in (slice_get bs 0)) (reads.next honest));
    reads = (_, reads.looked);
  }

  pub control-lacks : HasEnded by file later old new → ReadsControl by file None old new
  control-lacks ends = record {
    size_is = λ honest. sym (ap (λ (bs : List (List ℕ)). option_and_then size_in (slice_get bs 0))
        (ap (map (block_or_zeros old.image)) (ends.none honest)));
    reads = (_, ends.looked);
  }

-- a size above this, or not
pub if-above : (blocks size : ℕ) → blocks < size → Some size ≡ if_above blocks (Some size)
if-above blocks size above = sym (ap (λ (b : Bool). cond b (Some size) None) (lt-ltb blocks size above))

pub if-not-above : (blocks size : ℕ) → size ≤ blocks → None ≡ if_above blocks (Some size)
if-not-above blocks size below = sym (ap (λ (b : Bool). cond b (Some size) None) (le-ltb blocks size below))

-- it is above this
above-more : (blocks : ℕ) (size : Option ℕ) → IfSome (if_above blocks size) (λ w. blocks < w)
above-more blocks None = tt
above-more blocks (Some size) = elim (cases_lt blocks size) [
  | inl above ↦ subst (λ (o : Option ℕ). IfSome o (λ w. blocks < w)) (if-above blocks size above) above
  | inr below ↦ subst (λ (o : Option ℕ). IfSome o (λ w. blocks < w)) (if-not-above blocks size below) tt
]

-- the index file was read before, and the size behind it
pub tells-wanted : (home : HomeFields) (index wide : Index) (size wanted : Option ℕ) (blocks : ℕ) (old mid new : Disk)
    → FindsVolume home index old mid → wide ≡ all_in_use index → ReadsSize index wide size mid new → blocks ≡ length new.image
    → wanted ≡ if_above blocks size → TellsWanted wanted old new
tells-wanted home index wide size wanted blocks old mid new found all-used sizes count is = record {
  home = home;
  readable = found.readable;
  wanted_is = λ honest.
      above
      ∙ ap (if_above (length old.image)) (sizes.size_is (found.looked.honest ∙ honest)
      ∙ said-of-volume home index old mid found (size_stated wide) honest
      ∙ ap (λ (x : Index). size_stated x old.image (table_of old.image home))
      (all-used ∙ ap all_in_use (index-of-volume home index old mid found honest)));
  more = subst (λ (o : Option ℕ). IfSome o (λ w. length old.image < w)) (sym above) (above-more (length old.image) size);
  reads = reads-then (_, found.looked) sizes.reads;
}
  where
    same : new.image ≡ old.image
    same = sizes.reads.1.image ∙ found.looked.image

    above : wanted ≡ if_above (length old.image) size
    above = is ∙ ap (λ (b : ℕ). if_above b size) (count ∙ ap length same)

-- what a control block states, by the reason for which it is taken or isn't
module _ (control : List ℕ) where
  abbrev count : ℕ
  count = bitmap_count control

  abbrev size : ℕ
  size = stated_size control

  stated_if : Bool → Option ℕ
  stated_if all = cond all (Some size) None

  pub size-some : 0 < count → count ≤ 126 → 0 < size → size ≤ 4096 * count → Some size ≡ size_in control
  unfolding stated_if
  size-some some few more covered = sym (ap stated_if (both_true (lt-ltb 0 count some) (both_true (le-leb count 126 few)
      (both_true (lt-ltb 0 size more) (le-leb size (4096 * count) covered)))))

  pub size-zero : count ≡ 0 → None ≡ size_in control
  unfolding stated_if
  size-zero zero = sym (ap (λ (n : ℕ). stated_if (covers n size)) zero)

  pub size-many : 126 < count → None ≡ size_in control
  unfolding stated_if
  size-many many =
      sym (ap (λ (b : Bool). stated_if (nat_lt 0 count && (b && (nat_lt 0 size && nat_le size (4096 * count)))))
      (lt-leb count 126 many)
      ∙ ap stated_if (and-false (nat_lt 0 count)))

  pub size-nothing : size ≡ 0 → None ≡ size_in control
  unfolding stated_if
  size-nothing nothing =
      sym (ap (λ (b : Bool). stated_if (nat_lt 0 count && (nat_le count 126 && (b && nat_le size (4096 * count)))))
      (ap (nat_lt 0) nothing)
      ∙ ap (λ (b : Bool). stated_if (nat_lt 0 count && b)) (and-false (nat_le count 126))
      ∙ ap stated_if (and-false (nat_lt 0 count)))

  pub size-uncovered : 4096 * count < size → None ≡ size_in control
  unfolding stated_if
  size-uncovered more =
      sym (ap (λ (b : Bool). stated_if (nat_lt 0 count && (nat_le count 126 && (nat_lt 0 size && b))))
      (lt-leb size (4096 * count) more)
      ∙ ap (λ (b : Bool). stated_if (nat_lt 0 count && (nat_le count 126 && b))) (and-false (nat_lt 0 size))
      ∙ ap (λ (b : Bool). stated_if (nat_lt 0 count && b)) (and-false (nat_le count 126))
      ∙ ap stated_if (and-false (nat_lt 0 count)))
