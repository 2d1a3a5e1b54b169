-- A file's content, written block by block.
use Rattle.std.proofs.Common.{◌≡◌, ℕ, ◌+◌, ◌-◌, ◌*◌, ◌/◌, ◌<◌, ◌≤◌, min, IsTrue, List, [], ◌∷◌, ◌++◌, length, take, map}
use Rattle.std.proofs.Common.{refl, sym, ap, ◌∙◌, inl, inr, arith, append_assoc}
use Rattle.std.specs.List.{concat}
use Rattle.std.proofs.Math.Seq.{take-length, take-nil}
use Rattle.std.proofs.lemmas.Bool.{cases_lt}
use Rattle.std.proofs.lemmas.List.{append-nil, length-append, length-take-le, take-append-le}
use Rattle.f11_dev.specs.Disk.{Disk}
use Rattle.f11_dev.specs.Image.{Image}
use Rattle.f11_dev.specs.Looked.{Looked}
use Rattle.f11_dev.proofs.LookedLemmas.{looked_none, looked_more, looked_within}
use Rattle.f11_index.specs.IndexFile.{Index}
use Rattle.f11_index.specs.Table.{table_in}
use Rattle.f11_index.proofs.PlaceLemmas.{take-append-back}
use Rattle.f11_catalog.specs.map.HeaderBlock.{segment_number}
use Rattle.f11_reader.specs.Reading.{FailsToReadOn, IsReading, ReadsOn, HasEnded, blocks_to_come, contents_to_come, header_in_hand}
use Rattle.f11_reader.specs.Reading.{headers_left}
use Rattle.f11_reader.specs.declared.file.FileReader.{FileReader}
use Rattle.f11_volume.specs.Contents.{block_or_zeros}
use Rattle.f11_commands.specs.TakingOut.{IsContent, IsPart, ReadsBefore, bytes_to_come}

-- a device that was looked at has the same to come of a file
pub contents-stay : (index : Index) (file : FileReader) (old now : Disk) (most faults : ℕ) → Looked old now most faults
    → contents_to_come index now file ≡ contents_to_come index old file
contents-stay index file old now most faults looked =
    ap (λ (i : Image). map (block_or_zeros i) (blocks_to_come (table_in i index) file)) looked.image

-- a block, cut at an end that may be behind it, and what follows
cut : (left count : ℕ) (block rest : List ℕ) → length block ≡ 512 → count ≡ min left 512
    → take left (block ++ rest) ≡ take count block ++ take (left - count) rest
cut left count block rest size is = elim (cases_lt left 512) [
  | inl inside ↦
      let all : left ≡ count = omega arith in
      let none : left - count ≡ 0 = omega arith in
      take-append-le left block rest (omega arith)
      ∙ ap (λ (n : ℕ). take n block) all
      ∙ sym (append-nil (take count block))
      ∙ ap (λ (n : ℕ). take count block ++ take n rest) (sym none)
  | inr behind ↦
      let whole : length block ≡ count = omega arith in
      take-append-back left block rest (omega arith)
      ∙ ap (λ (n : ℕ). block ++ take (left - n) rest) whole
      ∙ ap (λ (front : List ℕ). front ++ take (left - count) rest) (sym (take-length block) ∙ ap (λ (n : ℕ). take n block) whole)
]

-- So many blocks of a file were read, and this text was taken of it: so many bytes are left before the end.
pub record Taken (index : Index) (file later : FileReader) (end left k : ℕ) (text : List ℕ) (old now : Disk) : Type 0 where
  pub reading : IsReading index later now
  pub left_is : left ≡ end - 512 * k
  pub few : k ≤ (end + 511) / 512
  pub sum : length text + left ≡ end
  pub text_is : IsTrue old.honest → bytes_to_come index old file end ≡ text ++ bytes_to_come index old later left
  pub blocks : IsTrue old.honest → length (contents_to_come index old file) ≡ k + length (contents_to_come index old later)
  pub forward : segment_number (header_in_hand file) ≤ segment_number (header_in_hand later)
  pub near : segment_number (header_in_hand later) ≤ segment_number (header_in_hand file) + headers_left file
  pub looked : Looked old now (segment_number (header_in_hand later) - segment_number (header_in_hand file) + k) 0

pub taken-none : (index : Index) (file : FileReader) (end : ℕ) (old : Disk) → IsReading index file old
    → Taken index file file end end 0 [] old old
taken-none index file end old reading = record {
  reading = reading;
  left_is = omega arith;
  few = omega arith;
  sum = omega arith;
  text_is = λ honest. refl;
  blocks = λ honest. omega arith;
  forward = omega arith;
  near = omega arith;
  looked = looked_within (looked_none old) (omega arith);
}

module _ (index : Index) (file later : FileReader) (end left k : ℕ) (text : List ℕ) (old now : Disk)
    (taken : Taken index file later end left k text old now) where
  to-come : (f : FileReader) → contents_to_come index now f ≡ contents_to_come index old f
  to-come f = contents-stay index f old now _ _ taken.looked

  -- the next block was read
  module _ (after : FileReader) (block : List ℕ) (new : Disk) (reads : ReadsOn index later after block now new) (some : 0 < left) where
    next-is : IsTrue old.honest → contents_to_come index old later ≡ block ∷ contents_to_come index old after
    next-is honest =
        sym (to-come later) ∙ reads.next (taken.looked.honest ∙ honest) ∙ ap (λ (bs : List (List ℕ)). block ∷ bs) (to-come after)

    -- and written before the end
    pub taken-more : (count : ℕ) (piece : List ℕ) → length block ≡ 512 → count ≡ min left 512 → piece ≡ take count block
        → IsReading index after new → Taken index file after end (left - count) (k + 1) (text ++ piece) old new
    taken-more count piece size is cut-is reading = record {
      reading = reading;
      left_is = omega (arith, taken.left_is);
      few = omega (arith, taken.left_is);
      sum =
          let sized : length piece ≡ count = ap length cut-is ∙ length-take-le count block (omega arith) in
          let both = length-append text piece in
          omega (arith, taken.sum, sized, both);
      text_is = λ honest.
          taken.text_is honest
          ∙ ap (λ (bs : List (List ℕ)). text ++ take left (concat bs)) (next-is honest)
          ∙ ap (λ (more : List ℕ). text ++ more) (cut left count block (concat (contents_to_come index old after)) size is)
          ∙ ap (λ (p : List ℕ). text ++ (p ++ take (left - count) (concat (contents_to_come index old after)))) (sym cut-is)
          ∙ sym (append_assoc text piece (bytes_to_come index old after (left - count)));
      blocks = λ honest. let next = ap length (next-is honest) in omega (arith, next, taken.blocks honest);
      forward = omega (arith, taken.forward, reads.forward);
      near = omega (arith, taken.near, reads.few);
      looked = looked_within (looked_more taken.looked reads.looked) (omega (arith, taken.forward, reads.forward));
    }

    -- or the writer took no more
    pub reads-one : ReadsBefore index file end old new 0
    reads-one = record {
      blocks = k + 1;
      few = omega (arith, taken.left_is);
      come = λ honest. let next = ap length (next-is honest) in omega (arith, next, taken.blocks honest);
      looked = looked_within (looked_more taken.looked reads.looked)
          (omega (arith, taken.forward, taken.near, reads.forward, reads.few));
    }

  -- the end was reached
  pub reads-all : ReadsBefore index file end old now 0
  reads-all = record {
    blocks = k;
    few = taken.few;
    come = λ honest. omega (arith, taken.blocks honest);
    looked = looked_within taken.looked (omega (arith, taken.near));
  }

  pub content-all : left ≡ 0 → IsContent index file end end old text
  content-all none = record {
    counted = omega (arith, taken.sum, none);
    few = omega arith;
    is = λ honest. sym (taken.text_is honest
        ∙ ap (λ (n : ℕ). text ++ take n (concat (contents_to_come index old later))) none ∙ append-nil text);
  }

  -- or no block is to come
  module _ (after : FileReader) (new : Disk) (ends : HasEnded index later after now new) where
    pub reads-ended : ReadsBefore index file end old new 0
    reads-ended = record {
      blocks = k;
      few = taken.few;
      come = λ honest. omega (arith, taken.blocks honest);
      looked = looked_within (looked_more taken.looked ends.looked) (omega (arith, taken.forward, taken.near));
    }

    pub content-ended : IsContent index file end (end - left) old text
    content-ended = record {
      counted = omega (arith, taken.sum);
      few = omega arith;
      is = λ honest.
          let none : contents_to_come index old later ≡ [] =
          sym (to-come later) ∙ ap (map (block_or_zeros now.image)) (ends.none (taken.looked.honest ∙ honest)) in
          sym (taken.text_is honest ∙ ap (λ (bs : List (List ℕ)). text ++ take left (concat bs)) none
          ∙ ap (λ (more : List ℕ). text ++ more) (take-nil left) ∙ append-nil text);
    }

  -- or a transfer failed
  module _ (after : FileReader) (new : Disk) (fails : FailsToReadOn index later after now new) where
    pub reads-failed : ReadsBefore index file end old new 1
    reads-failed = record {
      blocks = k;
      few = taken.few;
      come = λ honest. omega (arith, taken.blocks honest);
      looked = looked_within (looked_more taken.looked fails.looked) (omega (arith, taken.forward, taken.near));
    }

    pub content-part : IsPart index file end (end - left) old text
    content-part = record {
      counted = omega (arith, taken.sum);
      begins = record {
        few = omega (arith, taken.sum);
        begins = λ honest. record { rest = bytes_to_come index old later left; is = taken.text_is honest };
      };
    }
