-- Lines that are written one after another, of records that are read one after another.
use Rattle.std.proofs.Common.{◌≡◌, ◌++◌, ℕ, IsTrue, List, [], ◌∷◌, Option, Some, None, refl, sym, ap, ◌∙◌}
use Rattle.std.proofs.Common.{append_assoc}
use Rattle.std.proofs.lemmas.List.{append-nil}
use Rattle.std.proofs.lemmas.List.Concat.{flat_map-cons}
use Rattle.std.specs.Io.KnownBytes.{Appends}
use Rattle.std.specs.List.{flat_map}
use Rattle.f11_chain.specs.Calls.{table}
use Rattle.f11_dev.specs.Disk.{Disk}
use Rattle.f11_dev.specs.Image.{Image}
use Rattle.f11_dev.specs.Looked.{Looked}
use Rattle.f11_dev.proofs.LookedLemmas.{looked_more, looked_none}
use Rattle.f11_index.specs.IndexFile.{Index}
use Rattle.f11_index.specs.Table.{Table, table_in}
use Rattle.f11_store.specs.declared.files.FileId.{FileId}
use Rattle.f11_catalog.specs.Listing.{Writes, WritesRest}
use Rattle.f11_catalog.specs.Records.{FindsDirectory, Reads, index_by, records_found, records_to_come}
use Rattle.f11_catalog.specs.declared.directory.DirectoryReader.{DirectoryReader}
use Rattle.f11_catalog.specs.declared.found.FoundDirectory.{FoundDirectory}

pub reads-none : (disk : Disk) → Reads disk disk 0
reads-none disk = (0, looked_none disk)

pub reads-then : {a b c : Disk} {faults : ℕ} → Reads a b 0 → Reads b c faults → Reads a c faults
reads-then one two = (_, looked_more one.1 two.1)

pub appends-none : (a : Option (List ℕ)) → Appends a a []
appends-none None = tt
appends-none (Some xs) = sym (append-nil xs)

pub appends-then : (a b c : Option (List ℕ)) (xs ys : List ℕ) → Appends a b xs → Appends b c ys → Appends a c (xs ++ ys)
appends-then None b c xs ys one two = tt
appends-then (Some zs) None c xs ys one two = absurd one
appends-then (Some zs) (Some bs) None xs ys one two = absurd two
appends-then (Some zs) (Some bs) (Some cs) xs ys one two = two ∙ ap (λ l. l ++ ys) one ∙ append_assoc zs xs ys

-- what an honest disk says is said of it later, where it was only looked at
pub said-later : {X : Type 0} (text : Image → Table → X) (index : Index) {old now : Disk} {most faults : ℕ} → Looked old now most faults
    → text now.image (table index now) ≡ text old.image (table index old)
said-later text index looked = ap (λ (i : Image). text i (table_in i index)) looked.image

-- nothing is written where that is the text
pub writes-none : {W : Type 0} (text : Image → Table → List ℕ) (index : Index) (old new : Disk) (contents : W → Option (List ℕ))
    (writer : W) → (IsTrue old.honest → text old.image (table index old) ≡ []) → Reads old new 0
    → Writes text index old new contents writer writer
writes-none text index old new contents writer none reads = record {
  written = [];
  is = λ honest. sym (none honest);
  takes = appends-none (contents writer);
  reads = reads;
}

-- this text, where that is the text
pub writes-one : {W : Type 0} (text : Image → Table → List ℕ) (index : Index) (old new : Disk) (contents : W → Option (List ℕ))
    (before after : W) (written : List ℕ) → (IsTrue old.honest → text old.image (table index old) ≡ written)
    → Appends (contents before) (contents after) written → Reads old new 0 → Writes text index old new contents before after
writes-one text index old new contents before after written is takes reads =
    record { written = written; is = λ honest. sym (is honest); takes = takes; reads = reads }

-- one text behind another
pub writes-then : {W : Type 0} (f g : Image → Table → List ℕ) (index : Index) {a b c : Disk} (contents : W → Option (List ℕ)) {u v w : W}
    → Writes f index a b contents u v → Writes g index b c contents v w → Writes (λ i t. f i t ++ g i t) index a c contents u w
writes-then f g index {a} {b} {c} contents {u} {v} {w} one two = record {
  written = one.written ++ two.written;
  is = λ honest.
      let same = said-later g index one.reads.1 in
      let honest' : IsTrue b.honest = one.reads.1.honest ∙ honest in
      ap (λ xs. xs ++ two.written) (one.is honest)
      ∙ ap (λ xs. f a.image (table index a) ++ xs) (two.is honest' ∙ same);
  takes = appends-then (contents u) (contents v) (contents w) one.written two.written one.takes two.takes;
  reads = reads-then one.reads two.reads;
}

-- behind what was read
pub writes-behind : {W : Type 0} (text : Image → Table → List ℕ) (index : Index) {a b c : Disk} (contents : W → Option (List ℕ))
    {before after : W} → Reads a b 0 → Writes text index b c contents before after → Writes text index a c contents before after
writes-behind text index contents reads one = record {
  written = one.written;
  is = λ honest. one.is (reads.1.honest ∙ honest) ∙ said-later text index reads.1;
  takes = one.takes;
  reads = reads-then reads one.reads;
}

-- the same records are to come where the image is the same
pub coming-later : (index : Index) (old now : Disk) (directory : DirectoryReader) → now.image ≡ old.image
    → records_to_come index now directory ≡ records_to_come index old directory
unfolding records_to_come
coming-later index old now directory image = ap (λ (i : Image). records_to_come index (record old { image = i }) directory) image

-- The lines of a directory's first records were written, and those from here on are still to come.
pub record WritesFirst {W : Type 0} (line : Image → Table → List ℕ → List ℕ) (index by : Index) (first here : DirectoryReader)
    (old now : Disk)
    (contents : W → Option (List ℕ)) (before after : W) : Type 0 where
  pub written : List ℕ
  pub takes : Appends (contents before) (contents after) written
  pub lines :
      IsTrue old.honest →
      flat_map (line old.image (table index old)) (records_to_come by old first)
      ≡ written ++ flat_map (line old.image (table index old)) (records_to_come by old here)
  pub reads : Reads old now 0

module _ {W : Type 0} (line : Image → Table → List ℕ → List ℕ) (index by : Index) (contents : W → Option (List ℕ)) where
  pub first-none : (first : DirectoryReader) (disk : Disk) (writer : W)
      → WritesFirst line index by first first disk disk contents writer writer
  first-none first disk writer =
      record { written = []; takes = appends-none (contents writer); lines = λ _. refl; reads = reads-none disk }

  -- of which one is read
  pub first-read : {first here later : DirectoryReader} {old now next : Disk} {before after : W} (bytes : List ℕ)
      → WritesFirst line index by first here old now contents before after
      → (IsTrue now.honest → records_to_come by now here ≡ bytes ∷ records_to_come by now later) → Reads now next 0
      → (end : Disk) (last : W)
      → Writes (λ i t. line i t bytes) index next end contents after last
      → WritesFirst line index by first later old end contents before last
  first-read {first} {here} {later} {old} {now} {next} {before} {after} bytes so read looked end last one = record {
    written = so.written ++ one.written;
    takes = appends-then (contents before) (contents after) (contents last) so.written one.written so.takes one.takes;
    lines = λ honest.
        let image : now.image ≡ old.image = so.reads.1.image in
        let honest' : IsTrue now.honest = so.reads.1.honest ∙ honest in
        let was : records_to_come by old here ≡ bytes ∷ records_to_come by old later =
        sym (coming-later by old now here image) ∙ read honest' ∙ ap (λ rs. bytes ∷ rs) (coming-later by old now later image) in
        let text = one.is (looked.1.honest ∙ honest')
        ∙ ap (λ (i : Image). line i (table_in i index) bytes) (looked.1.image ∙ image) in
        so.lines honest
        ∙ ap (λ rs. so.written ++ flat_map (line old.image (table index old)) rs) was
        ∙ ap (λ xs. so.written ++ xs) (flat_map-cons (line old.image (table index old)) bytes (records_to_come by old later))
        ∙ ap (λ xs. so.written ++ (xs ++ flat_map (line old.image (table index old)) (records_to_come by old later))) (sym text)
        ∙ sym (append_assoc so.written one.written (flat_map (line old.image (table index old)) (records_to_come by old later)));
    reads = reads-then so.reads (reads-then looked one.reads);
  }

  -- and none is left
  pub first-all : {first here : DirectoryReader} {old now : Disk} {before after : W}
      → WritesFirst line index by first here old now contents before after
      → (IsTrue now.honest → records_to_come by now here ≡ []) → (new : Disk) → Reads now new 0
      → Writes (λ i t. flat_map (line i t) (records_to_come by old first)) index old new contents before after
  first-all {first} {here} {old} {now} so none new looked = record {
    written = so.written;
    is = λ honest.
        let image : now.image ≡ old.image = so.reads.1.image in
        let left : records_to_come by old here ≡ [] = sym (coming-later by old now here image) ∙ none (so.reads.1.honest ∙ honest) in
        sym (so.lines honest ∙ ap (λ rs. so.written ++ flat_map (line old.image (table index old)) rs) left ∙ append-nil so.written);
    takes = so.takes;
    reads = reads-then so.reads looked;
  }

-- a directory was found, and the text of its records written
pub lists-all : {W : Type 0} (text : Image → Table → List (List ℕ) → List ℕ) (index wide by : Index) (id : FileId)
    (contents : W → Option (List ℕ)) {found : FoundDirectory} {old mid new : Disk} {before after : W}
    → FindsDirectory index wide id found old mid → by ≡ index_by found.in_use index wide
    → WritesRest text index by found.directory mid new contents before after
    → Writes (λ image t. text image t (records_found wide image t id)) index old new contents before after
lists-all text index wide by id contents {found} {old} {mid} finds is rest = record {
  written = rest.written;
  is = λ honest.
      let t = table index old in
      rest.is (finds.looked.honest ∙ honest)
      ∙ said-later (λ image t. text image t (records_to_come by mid found.directory)) index finds.looked
      ∙ ap (text old.image t) (coming-later by old mid found.directory finds.looked.image
      ∙ ap (λ (i : Index). records_to_come i old found.directory) is ∙ finds.records honest);
  takes = rest.takes;
  reads = reads-then (_, finds.looked) rest.reads;
}
