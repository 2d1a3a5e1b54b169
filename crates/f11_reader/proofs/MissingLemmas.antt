-- Which block of a file isn't there, found header by header.
use Rattle.std.proofs.Common.{◌≡◌, ℕ, suc, ◌+◌, ◌-◌, ◌<◌, ◌≤◌, Bool, IsTrue, List, ◌∷◌, Some, None, cond, refl, sym, ap, subst, ◌∙◌, arith}
use Rattle.std.proofs.lemmas.Bool.{lt-ltb, le-ltb}
use Rattle.std.specs.Prelude.{nat_lt}
use Rattle.f11_chain.proofs.AlongLemmas.{honest-stays, table-stays}
use Rattle.f11_chain.specs.Calls.{table}
use Rattle.f11_dev.specs.Disk.{Disk}
use Rattle.f11_dev.specs.Image.{Image}
use Rattle.f11_dev.specs.Looked.{Looked}
use Rattle.f11_dev.proofs.LookedLemmas.{looked_none, looked_more, looked_within}
use Rattle.f11_index.specs.IndexFile.{Index}
use Rattle.f11_index.specs.Table.{Table, table_in}
use Rattle.f11_map.specs.HeaderBlock.{segment_number}
use Rattle.f11_reader.specs.Missing.{FindsMissing, LacksBlock, PassesBlock, TellsWhole, blocks_there, last_of, last_to_come, links_to_none}
use Rattle.f11_reader.specs.Missing.{missing_of}
use Rattle.f11_reader.specs.Reading.{FailsToReadOn, HasEnded, IsReading, blocks_to_come, headers_left}
use Rattle.f11_reader.specs.Steps.{ComesTo, StepsNowhere, StepsOn}
use Rattle.f11_reader.specs.declared.file.FileReader.{FileReader}
use Rattle.f11_reader.proofs.ReadLemmas.{Gone, comes-first, comes-next, gone-more, gone-none, headers-step, looked-to-end, none-follows}

there-more : (size lbn : ℕ) (lbns : List ℕ) → lbn < size → blocks_there size (lbn ∷ lbns) ≡ suc (blocks_there size lbns)
there-more size lbn lbns inside = ap (λ (b : Bool). cond b (suc (blocks_there size lbns)) 0) (lt-ltb lbn size inside)

there-none : (size lbn : ℕ) (lbns : List ℕ) → size ≤ lbn → blocks_there size (lbn ∷ lbns) ≡ 0
there-none size lbn lbns past = ap (λ (b : Bool). cond b (suc (blocks_there size lbns)) 0) (le-ltb lbn size past)

missing-at : (size blocks there : ℕ) (lbns : List ℕ) → blocks_there size lbns ≡ there → there < blocks
    → Some (there + 1) ≡ missing_of size blocks lbns
missing-at size blocks there lbns is few =
    sym (ap (λ (k : ℕ). cond (nat_lt k blocks) (Some (k + 1)) None) is
    ∙ ap (λ (b : Bool). cond b (Some (there + 1)) None) (lt-ltb there blocks few))

missing-none : (size blocks : ℕ) (lbns : List ℕ) → blocks ≤ blocks_there size lbns → None ≡ missing_of size blocks lbns
missing-none size blocks lbns all =
    sym (ap (λ (b : Bool). cond b (Some (blocks_there size lbns + 1)) None) (le-ltb (blocks_there size lbns) blocks all))

-- The next block of a file is named.
module _ (index : Index) (file mid : FileReader) (lbn size : ℕ) (old new : Disk) (comes : ComesTo index file mid lbn old new) where
  abbrev t : Table
  t = table index old

  -- and is there
  pub passes : (later : FileReader) → later.header ≡ mid.header → later.number ≡ mid.number → later.place ≡ mid.place + 1
      → lbn < size → PassesBlock index file later size old new
  passes later header number place inside = record {
    there = λ honest.
        ap (blocks_there size)
        (sym (comes.same honest) ∙ comes-next t mid later lbn comes.named header number place)
        ∙ there-more size lbn (blocks_to_come t later) inside
        ∙ omega arith;
    forward = omega (arith, comes.forward, segment);
    few = omega (arith, comes.few, segment);
    looked = looked_within comes.looked (omega (arith, segment));
  }
    where
      segment : segment_number later.header ≡ segment_number mid.header
      segment = ap segment_number header

  -- or it isn't
  pub lacks-past : size ≤ lbn → LacksBlock index file size old new
  lacks-past past = record {
    none = λ honest.
        ap (blocks_there size) (sym (comes.same honest) ∙ comes-first t mid lbn comes.named)
        ∙ there-none size lbn _ past;
    looked = looked_within comes.looked (omega (arith, comes.forward, comes.few));
  }

-- none is named
pub lacks-ended : (index : Index) (file later : FileReader) (size : ℕ) (old new : Disk) → HasEnded index file later old new
    → LacksBlock index file size old new
lacks-ended index file later size old new ends =
    record { none = λ honest. ap (blocks_there size) (ends.none honest); looked = ends.looked }

-- So many blocks of a file are there, and were passed.
pub record Passed (index : Index) (file later : FileReader) (size there : ℕ) (old now : Disk) : Type 0 where
  pub reading : IsReading index later now
  pub rest : IsTrue old.honest → blocks_there size (blocks_to_come (table index old) file)
      ≡ there + blocks_there size (blocks_to_come (table index old) later)
  pub forward : segment_number file.header ≤ segment_number later.header
  pub near : segment_number later.header ≤ segment_number file.header + headers_left file
  pub looked : Looked old now (segment_number later.header - segment_number file.header) 0

pub passed-none : (index : Index) (file : FileReader) (size : ℕ) (old : Disk) → IsReading index file old
    → Passed index file file size 0 old old
passed-none index file size old reading = record {
  reading = reading;
  rest = λ honest. omega arith;
  forward = omega arith;
  near = omega arith;
  looked = looked_within (looked_none old) (omega arith);
}

module _ (index : Index) (file here : FileReader) (size there : ℕ) (old now : Disk) (passed : Passed index file here size there old now)
  where
    -- what is to come of a file is the same as at first
    there-are : (f : FileReader) → blocks_there size (blocks_to_come (table index now) f)
        ≡ blocks_there size (blocks_to_come (table index old) f)
    there-are f = ap (λ (i : Image). blocks_there size (blocks_to_come (table_in i index) f)) passed.looked.image

    -- one more was passed
    pub passed-more : (later : FileReader) (new : Disk) → PassesBlock index here later size now new → IsReading index later new
        → Passed index file later size (there + 1) old new
    passed-more later new more reading = record {
      reading = reading;
      rest = λ honest.
          let one = more.there (passed.looked.honest ∙ honest) in
          let before = there-are here in
          let behind = there-are later in
          omega (arith, one, before, behind, passed.rest honest);
      forward = omega (arith, passed.forward, more.forward);
      near = omega (arith, passed.near, more.few);
      looked = looked_within (looked_more passed.looked more.looked) (omega (arith, passed.forward, more.forward));
    }

    -- the next one isn't there
    pub missing-next : (new : Disk) (blocks : ℕ) → LacksBlock index here size now new → there < blocks
        → FindsMissing index file size blocks (Some (there + 1)) old new
    missing-next new blocks lacks few = record {
      missing_is = λ honest.
          let none = lacks.none (passed.looked.honest ∙ honest) in
          let before = there-are here in
          missing-at size blocks there _ (omega (arith, none, before, passed.rest honest)) few;
      looked = looked_within (looked_more passed.looked lacks.looked) (omega (arith, passed.forward, passed.near));
    }

    -- all that were asked for are there
    pub missing-no : (blocks : ℕ) → blocks ≤ there → FindsMissing index file size blocks None old now
    missing-no blocks all = record {
      missing_is = λ honest. missing-none size blocks _ (let rest = passed.rest honest in omega (arith, rest, all));
      looked = looked_within passed.looked (omega (arith, passed.near));
    }

    -- a transfer failed
    pub missing-fails : (after : FileReader) (new : Disk) → FailsToReadOn index here after now new
        → Looked old new (headers_left file + 1) 1
    missing-fails after new fails =
        looked_within (looked_more passed.looked fails.looked) (omega (arith, passed.forward, passed.near))

-- So many headers were read, and the last one that is reached is the same.
pub record Ending (index : Index) (file later : FileReader) (k : ℕ) (old now : Disk) : Type 0 where
  pub gone : Gone index file later k old now
  pub same : IsTrue old.honest → last_to_come (table index old) file ≡ last_to_come (table index old) later

pub ending-none : (index : Index) (file : FileReader) (old : Disk) → IsReading index file old → Ending index file file 0 old old
ending-none index file old reading = record { gone = gone-none index file old reading; same = λ honest. refl }

module _ (index : Index) (file here : FileReader) (k : ℕ) (old now : Disk) (so : Ending index file here k old now) where
  -- one more was read
  pub ending-more : (later : FileReader) (new : Disk) → StepsOn index here later now new → IsReading index later new
      → Ending index file later (k + 1) old new
  ending-more later new steps reading = record {
    gone = gone-more index file here k old now so.gone later new steps reading;
    same = λ honest.
        so.same honest
        ∙ subst (λ (t : Table). last_to_come t here ≡ last_to_come t later) (table-stays index old now k so.gone.looked)
        (ap (last_of here.number) (headers-step index here later now new steps (honest-stays index old now k so.gone.looked honest)));
  }

  -- none follows
  pub ending-all : (after : FileReader) (new : Disk) → StepsNowhere index here after now new → (whole : Bool)
      → whole ≡ links_to_none after.header → TellsWhole index file whole old new
  ending-all after new none whole is = record {
    whole_is = λ honest.
        let t : Table = table index old in
        is
        ∙ ap (λ (f : FileReader). links_to_none f.header) none.stays
        ∙ ap links_to_none (so.gone.reading.block_is honest)
        ∙ ap (λ (hs : List ℕ). links_to_none (t.header (last_of here.number hs)))
        (sym (none-follows index file here k old now so.gone after new none honest))
        ∙ ap (λ (n : ℕ). links_to_none (t.header n)) (sym (so.same honest));
    looked = looked-to-end index file here k old now so.gone after new none;
  }
