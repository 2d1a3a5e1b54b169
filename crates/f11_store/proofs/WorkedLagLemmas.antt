-- What is no lag, computed.
use Rattle.std.proofs.Common.{◌≡◌, ◌⊎◌, ℕ, zero, suc, ◌+◌, ◌≤◌, List, [], length, Some, None, take, refl, sym, ◌∙◌, ap, inl, inr, arith}
use Rattle.f11_store.specs.declared.requests.Request.TheVariants as request
use Rattle.f11_store.specs.File.{File, stated_end, zero_blocks}
use Rattle.f11_store.specs.Directory.{is_directory, record_at, entries_of, has_name, record_bytes, with_end}
use Rattle.f11_store.specs.Headroom.{lacks_headers, slots_first}
use Rattle.f11_store.specs.Store.{Store, free_slots, is_held}
use Rattle.f11_store.specs.Changes.{with_delete_mark}
use Rattle.f11_store.specs.Lags.{Part, Lags, LagsBy, AreLike, IsLike, work_of, with_parts, extend_parts, grow_parts, grow_work}
use Rattle.f11_store.specs.Worked.{first_user, crowded_volume, create, mfd_block, own_records}
use Rattle.f11_store.specs.WorkedLags.{CreateTakesOneHeader, ExtendTakesWhatItAsks, GrowIndexClearsFirst, DeleteLeavesOthers}
use Rattle.f11_store.specs.WorkedLags.{ReleaseFreesOnce, CreateGetsSlotFirst, ExtendGetsSlotFirst, a_file, contiguous_index}
use Rattle.f11_store.specs.WorkedLags.{file_without_slot, block_without_slot, empty_volume, given_to_7}
use Rattle.f11_store.specs.WorkedLags.{EnteredAtTheEnd, LimitsStay, SequencesStay, TruncateAddsNoPointer, WorkTakesHeaders}

-- pointers that differ in two files said to be one
pub no_pointers : {f g : File} → Some f ≡ Some g → f.pointers ≡ g.pointers
no_pointers {f} {g} same = let equal : f ≡ g = cc in ap (λ (x : File). x.pointers) equal

pub create_takes_one_header : CreateTakesOneHeader
unfolding free_slots is_held zero_blocks lacks_headers slots_first
create_takes_one_header lags = let few : 11 ≤ 9 + 1 = lags.headers in omega (arith, few)

pub extend_takes_what_it_asks : ExtendTakesWhatItAsks
unfolding free_slots is_held zero_blocks lacks_headers slots_first extend_parts
extend_takes_what_it_asks = record {
  blocks = λ lags. let few : 378 ≤ 376 + 1 = lags.free_blocks in omega (arith, few);
  others = λ lags. let same : 1 ≡ 0 = no_pointers (lags.others 5 refl) in omega (arith, same);
}

-- a slot is there after the mark is cleared alone
no_slot : LagsBy (grow_work 101 1) (record contiguous_index { slots = 17 }) contiguous_index → ⊥
unfolding grow_parts
no_slot lags = by_number lags.done lags.slots (lags.files 1)
  where
    by_number : (done : ℕ) → 17 ≡ (with_parts contiguous_index (take done (grow_parts 1))).slots →
        AreLike (contiguous_index.file 1) ((with_parts contiguous_index (take done (grow_parts 1))).file 1) → ⊥
    by_number zero slots like = let same : 17 ≡ 16 = slots in omega (arith, same)
    by_number (suc zero) slots like = let same : 17 ≡ 16 = slots in omega (arith, same)
    by_number (suc (suc zero)) slots like = let same : 128 ≡ 0 = like.characteristics in omega (arith, same)
    by_number (suc (suc (suc n))) slots like = let same : 128 ≡ 0 = like.characteristics in omega (arith, same)

pub grow_index_clears_first : GrowIndexClearsFirst
unfolding free_slots is_held zero_blocks lacks_headers slots_first
grow_index_clears_first = record {
  mark = λ lags. no_slot lags;
  others = λ lags. let same : 1 ≡ 0 = no_pointers (lags.others 5 refl) in omega (arith, same);
}

pub delete_leaves_others : DeleteLeavesOthers
unfolding free_slots is_held zero_blocks lacks_headers slots_first
delete_leaves_others lags = let same : 1 ≡ 0 = no_pointers (lags.others 5 refl) in omega (arith, same)

pub release_frees_once : ReleaseFreesOnce
unfolding free_slots is_held zero_blocks lacks_headers slots_first
release_frees_once = record {
  once = refl;
  accessed = λ lags. let gone : None ≡ Some (with_delete_mark a_file) = lags.others 6 refl in absurd (cc);
  others = λ lags. let same : 1 ≡ 0 = no_pointers (lags.others 5 refl) in omega (arith, same);
}

-- a file is there after its slot alone
no_file_yet : LagsBy (work_of crowded_volume 0 first_user create []) file_without_slot crowded_volume → ⊥
unfolding free_slots lacks_headers slots_first grow_parts
no_file_yet lags = by_number lags.done lags.slots (lags.files 17)
  where
    parts : List Part
    parts = (work_of crowded_volume 0 first_user create []).parts

    by_number : (done : ℕ) → 16 ≡ (with_parts crowded_volume (take done parts)).slots →
        AreLike (file_without_slot.file 17) ((with_parts crowded_volume (take done parts)).file 17) → ⊥
    by_number zero slots like = like
    by_number (suc zero) slots like = like
    by_number (suc (suc zero)) slots like = like
    by_number (suc (suc (suc zero))) slots like = let same : 16 ≡ 17 = slots in omega (arith, same)
    by_number (suc (suc (suc (suc n)))) slots like = let same : 16 ≡ 17 = slots in omega (arith, same)

pub create_gets_slot_first : CreateGetsSlotFirst
unfolding free_slots is_held lacks_headers slots_first
create_gets_slot_first = record {
  blocks = λ lags. let few : 174 ≤ 172 + 1 = lags.free_blocks in omega (arith, few);
  others = λ lags. let same : 1 ≡ 0 = no_pointers (lags.others 5 refl) in omega (arith, same);
  order = λ lags. no_file_yet lags;
}

-- a block is there after the slot for its header alone
no_block_yet : LagsBy (work_of crowded_volume 0 first_user (request.Extend 0 1) []) block_without_slot crowded_volume → ⊥
unfolding free_slots is_held zero_blocks lacks_headers slots_first grow_parts extend_parts
no_block_yet lags = by_number lags.done lags.slots (lags.files 6)
  where
    parts : List Part
    parts = (work_of crowded_volume 0 first_user (request.Extend 0 1) []).parts

    no_blocks : {f g : File} → IsLike f g → length f.blocks ≡ 1 → length g.blocks ≡ 0 → ⊥
    no_blocks {f} {g} like one none =
        let same : length f.blocks ≡ length g.blocks = ap (λ (bs : List (List ℕ)). length bs) like.blocks in omega (arith, same, one, none)

    by_number : (done : ℕ) → 16 ≡ (with_parts crowded_volume (take done parts)).slots →
        AreLike (block_without_slot.file 6) ((with_parts crowded_volume (take done parts)).file 6) → ⊥
    by_number zero slots like = no_blocks like refl refl
    by_number (suc zero) slots like = no_blocks like refl refl
    by_number (suc (suc zero)) slots like = let same : 16 ≡ 17 = slots in omega (arith, same)
    by_number (suc (suc (suc zero))) slots like = let same : 16 ≡ 17 = slots in omega (arith, same)
    by_number (suc (suc (suc (suc zero)))) slots like = let same : 16 ≡ 17 = slots in omega (arith, same)
    by_number (suc (suc (suc (suc (suc n))))) slots like = let same : 16 ≡ 17 = slots in omega (arith, same)

pub extend_gets_slot_first : ExtendGetsSlotFirst
unfolding free_slots is_held zero_blocks lacks_headers slots_first
extend_gets_slot_first = record {
  blocks = λ lags. let few : 174 ≤ 171 + 2 = lags.free_blocks in omega (arith, few);
  others = λ lags. let same : 1 ≡ 0 = no_pointers (lags.others 5 refl) in omega (arith, same);
  order = λ lags. no_block_yet lags;
}

pub limits_stay : LimitsStay
limits_stay = record {
  bitmap = λ lags. let same : 2 ≡ 1 = lags.limits.bitmap_blocks in omega (arith, same);
  index_bitmap = λ lags. let same : 2 ≡ 1 = lags.limits.index_bitmap_blocks in omega (arith, same);
  slots = λ lags. let same : 4001 ≡ 4000 = lags.limits.limit in omega (arith, same);
}

-- a slot that gets a header
given_twice : Lags (given_to_7 2) empty_volume 0 first_user create [] → ⊥
unfolding free_slots is_held zero_blocks lacks_headers slots_first
given_twice lags = by 2 refl (lags.last 7 (omega arith) (λ k. tt))
  where
    by : (last : ℕ) → last ≡ 2 → (last ≡ 0) ⊎ (last ≡ 1) → ⊥
    by last is (inl same) = omega (arith, is, same)
    by last is (inr next) = omega (arith, is, next)

pub sequences_stay : SequencesStay
sequences_stay = record {
  next_but_one = λ lags. given_twice lags;
  untaken = λ lags. let same : 1 ≡ 0 = lags.no_header refl 7 (omega arith) in omega (arith, same);
}

pub truncate_adds_no_pointer : TruncateAddsNoPointer
truncate_adds_no_pointer s is cut =
    let now : 1 ≡ cut.pointers = no_pointers (sym is ∙ ap (λ (t : Store). t.file 6) cut.store_is) in
    let was : 0 ≡ cut.before.pointers = no_pointers cut.was in
    omega (arith, now, was, cut.no_more_pointers)

pub work_takes_headers : WorkTakesHeaders
unfolding free_slots is_held zero_blocks lacks_headers slots_first
work_takes_headers =
    record { within = refl; behind = refl; slots_within = refl; slots_behind = refl; slot_first = refl; blocks = refl }

pub entered_at_the_end : EnteredAtTheEnd
unfolding free_slots is_held zero_blocks lacks_headers slots_first stated_end is_directory record_at entries_of has_name record_bytes
    with_end
    own_records mfd_block
entered_at_the_end = refl
