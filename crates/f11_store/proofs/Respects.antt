-- Changes that make files alike of files that are alike, and the parts of works that do.
use Rattle.std.proofs.Common.{ℕ, zero, suc, ◌+◌, ◌*◌, List, [], ◌∷◌, ◌++◌, ap, ◌∙◌, length, replicate}
use Rattle.f11_store.specs.Directory.{with_end, with_record}
use Rattle.f11_store.specs.File.{without_contiguous, zero_blocks}
use Rattle.f11_store.specs.Changes.{with_entry, with_end_after}
use Rattle.f11_store.specs.Lags.{Part, end_work, extend_parts, file_changes, with_no_mark, with_zero_block}
use Rattle.f11_store.specs.Moments.{AreRespectful, IsRespectful, Respects}

-- a record put in files that are alike
pub entry_respects : (i : ℕ) (r : List ℕ) → Respects (with_entry i r)
entry_respects i r f g l = record {
  sequence = l.sequence;
  owner = l.owner;
  protection = l.protection;
  characteristics = l.characteristics;
  ident = l.ident;
  attr = l.attr;
  blocks = ap (λ b. with_record b i r) l.blocks;
}

-- an end moved in files that are alike
pub end_respects : (i : ℕ) → Respects (with_end_after i)
end_respects i f g l = record {
  sequence = l.sequence;
  owner = l.owner;
  protection = l.protection;
  characteristics = l.characteristics;
  ident = l.ident;
  attr = ap (λ a. with_end a (length f.blocks) (16 * (i + 1))) l.attr ∙ ap (λ b. with_end g.attr (length b) (16 * (i + 1))) l.blocks;
  blocks = l.blocks;
}

-- a mark cleared
mark_respects : Respects with_no_mark
mark_respects f g l = record {
  sequence = l.sequence;
  owner = l.owner;
  protection = l.protection;
  characteristics = ap without_contiguous l.characteristics;
  ident = l.ident;
  attr = l.attr;
  blocks = l.blocks;
}

-- a block of zeros added
zero_respects : Respects with_zero_block
zero_respects f g l = record {
  sequence = l.sequence;
  owner = l.owner;
  protection = l.protection;
  characteristics = l.characteristics;
  ident = l.ident;
  attr = l.attr;
  blocks = ap (λ b. b ++ zero_blocks 1) l.blocks;
}

-- one part n times
repeated_respectful : (n : ℕ) (p : Part) → IsRespectful p → AreRespectful (replicate n p)
repeated_respectful zero p h = tt
repeated_respectful (suc n) p h = (h, repeated_respectful n p h)

-- parts, and then others
pub both_respectful : (ps qs : List Part) → AreRespectful ps → AreRespectful qs → AreRespectful (ps ++ qs)
both_respectful [] qs h k = k
both_respectful (p ∷ ps) qs h k = (h.0, both_respectful ps qs h.1 k)

-- the parts of a file that grows, and of a record at a directory's end
pub extend_respectful : (k n : ℕ) → AreRespectful (extend_parts k n)
unfolding extend_parts
extend_respectful k n = (mark_respects, repeated_respectful n (file_changes k with_zero_block) zero_respects)

pub end_respectful : (k i : ℕ) (r : List ℕ) → AreRespectful (end_work k i r).parts
end_respectful k i r = (entry_respects i r, (end_respects i, tt))
