-- The worked examples, computed.
use Rattle.std.proofs.Common.{◌≡◌, ◌≤◌, ℕ, List, [], Some, None, refl, sym, subst, arith}
use Rattle.f11_store.specs.declared.callers.Uic.{Uic}
use Rattle.f11_store.specs.declared.refusals.Refusal.{Refusal}
use Rattle.f11_store.specs.declared.refusals.Refusal.TheVariants.{NoHeader, NoMemory}
use Rattle.f11_store.specs.declared.requests.Request.{Request}
use Rattle.f11_store.specs.File.{File, zero_block, zero_blocks, stated_end}
use Rattle.f11_store.specs.Store.{Store, free_slots, is_held}
use Rattle.f11_store.specs.Directory.{is_directory, record_at, entries_of, has_name, record_bytes, with_record, with_end}
use Rattle.f11_store.specs.Causes.{first_refusal}
use Rattle.f11_store.specs.Changes.{Changes, MayGrow, Grows, with_grown_file}
use Rattle.f11_store.specs.Step.{MayRefuse, Refuses, Serves, reply_of, block_after}
use Rattle.f11_store.specs.Worked.{own_records, mfd_block, crowded_block, SequenceNumbers, FullVolume, TooLong, DeferredDelete}
use Rattle.f11_store.specs.Worked.{TruncatedUnderAReader, Conflicts, OtherVolumes, EnteredAndRemoved, EnteredInNewBlock, EnteredBehindSlot}
use Rattle.f11_store.specs.Worked.{EndMoves}
use Rattle.f11_store.specs.Worked.{HeadersRunOut, SlotsRunOut, RefusedForSlotsAlone, Bounds, BoundsBehindSlots}
use Rattle.f11_store.specs.Changes.{AfterSlots, GetsSlots, GrowsIndex, with_more_slots}
use Rattle.f11_store.specs.Headroom.{lacks_headers, slots_first}
use Rattle.f11_store.specs.Store.{free_headers}
use Rattle.f11_store.specs.Step.{asks_for_run, may_want_memory}

-- a step that is refused
refused :
    {s : Store} {task : ℕ} {caller : Uic} {r : Request} {block : List ℕ} {e : Refusal} →
    MayRefuse (first_refusal s task caller r) (may_want_memory s task r) (asks_for_run r) e → Refuses s task caller r block e s block
refused h = record { may_refuse = h; store_stays = refl; block_stays = refl }

-- a step that is served
served :
    {s : Store} {task : ℕ} {caller : Uic} {r : Request} {block : List ℕ} {s' : Store} →
    first_refusal s task caller r ≡ None → Changes s task caller r block s' →
    Serves s task caller r block (reply_of s task r) s' (block_after s task r block)
served h k = record { no_cause = h; reply_is = refl; changes = k; block_is = refl }

-- a file that grows, by so many headers, to so many pointers and so much room
grows :
    {s : Store} {k n : ℕ} {blocks : List (List ℕ)} {f : File} (added pointers room : ℕ) →
    s.file k ≡ Some f → MayGrow f n added pointers room → Grows s k n blocks (with_grown_file s k f n blocks added pointers room)
grows added pointers room h may = record {
  before = _;
  added = added;
  pointers = pointers;
  room = room;
  was = h;
  may_grow = may;
  store_is = refl;
}

-- enough headers are free
at_once :
    {s : Store} {headers : ℕ} {Makes : Store → Type 0} → slots_first s headers ≡ 0 → headers ≤ free_headers s → Makes s
    → AfterSlots s headers Makes
at_once {s} {headers} {Makes} none enough makes =
    record { ready = s; gains = subst (λ (n : ℕ). GetsSlots n s s) (sym none) refl; enough = enough; makes = makes }

-- a slot more, which takes a pointer more, of an index file with so many pointers and so much room
slot_more :
    {s : Store} {f : File} (pointers room : ℕ) → s.file 1 ≡ Some f → MayGrow f 1 0 pointers room →
    GrowsIndex s 1 (with_more_slots (with_grown_file s 1 f 1 [] 0 pointers room) 1)
slot_more pointers room was may = record { grown = _; grows = grows 0 pointers room was may; store_is = refl }

-- too few are, and the index file gets a slot first
after_slot :
    {s : Store} {headers : ℕ} {Makes : Store → Type 0} {ready : Store} → slots_first s headers ≡ 1 → GrowsIndex s 1 ready →
    headers ≤ free_headers ready → Makes ready → AfterSlots s headers Makes
after_slot {s} {headers} {Makes} {ready} some gains enough makes =
    record { ready = ready; gains = subst (λ (n : ℕ). GetsSlots n s ready) (sym some) gains; enough = enough; makes = makes }

pub sequence_numbers : SequenceNumbers
unfolding free_slots is_held zero_blocks lacks_headers slots_first
sequence_numbers = (
  _,
  (
    _,
    served refl (at_once refl (omega arith) refl),
    (_, served refl refl, (_, served refl (at_once refl (omega arith) refl), (_, refused refl, (_, served refl refl, refl)))),
  ),
)

pub full_volume : FullVolume
unfolding free_slots is_held zero_blocks lacks_headers slots_first
full_volume = (
  _,
  (
    _,
    served refl (at_once refl (omega arith) refl),
    (
      _,
      served refl refl,
      (
        _,
        served refl (at_once refl (omega arith)
            (grows 0 2 100 refl (record {
              headers = omega arith;
              no_fewer = omega arith;
              no_more = omega arith;
              places = refl;
              filled = λ h. omega arith;
            }))),
        (_, refused refl, (_, served refl refl, refl)),
      ),
    ),
  ),
)

pub too_long : TooLong
unfolding free_slots is_held zero_blocks lacks_headers slots_first
too_long = (
  _,
  (
    _,
    served refl (at_once refl (omega arith) refl),
    (_, served refl refl, (_, refused refl, (_, refused refl, (_, refused refl, refl)))),
  ),
)

pub deferred_delete : DeferredDelete
unfolding free_slots is_held zero_blocks lacks_headers slots_first
deferred_delete = (
  _,
  (
    _,
    served refl (at_once refl (omega arith) refl),
    (
      _,
      served refl refl,
      (
        _,
        served refl (at_once refl (omega arith)
            (grows 0 1 101 refl (record {
              headers = omega arith;
              no_fewer = omega arith;
              no_more = omega arith;
              places = refl;
              filled = λ h. omega arith;
            }))),
        (
          _,
          served refl refl,
          (
            _,
            served refl refl,
            (
              _,
              served refl refl,
              (
                _,
                served refl refl,
                (_, refused refl, (_, refused refl, (_, served refl refl, (_, served refl refl, (_, served refl refl, refl))))),
              ),
            ),
          ),
        ),
      ),
    ),
  ),
)

pub truncated_under_a_reader : TruncatedUnderAReader
unfolding free_slots is_held zero_blocks lacks_headers slots_first
truncated_under_a_reader = (
  _,
  (
    _,
    served refl (at_once refl (omega arith) refl),
    (
      _,
      served refl refl,
      (
        _,
        served refl (at_once refl (omega arith)
            (grows 0 1 101 refl (record {
              headers = omega arith;
              no_fewer = omega arith;
              no_more = omega arith;
              places = refl;
              filled = λ h. omega arith;
            }))),
        (
          _,
          served refl refl,
          (
            _,
            served refl refl,
            (
              _,
              served refl (record {
                before = _;
                headers = 1;
                pointers = 1;
                room = 101;
                was = refl;
                some_header = omega arith;
                no_more_headers = omega arith;
                no_more_pointers = omega arith;
                store_is = refl;
              }),
              (
                _,
                served refl (at_once refl (omega arith) refl),
                (
                  _,
                  served refl refl,
                  (
                    _,
                    served refl (at_once refl (omega arith)
                        (grows 0 1 101 refl (record {
                          headers = omega arith;
                          no_fewer = omega arith;
                          no_more = omega arith;
                          places = refl;
                          filled = λ h. omega arith;
                        }))),
                    (_, served refl refl, (_, refused refl, refl)),
                  ),
                ),
              ),
            ),
          ),
        ),
      ),
    ),
  ),
)

pub conflicts : Conflicts
unfolding free_slots is_held zero_blocks lacks_headers slots_first
conflicts = (
  _,
  (
    _,
    served refl (at_once refl (omega arith) refl),
    (
      _,
      served refl refl,
      (
        _,
        refused refl,
        (
          _,
          served refl refl,
          (_, served refl refl, (_, refused refl, (_, refused refl, (_, refused refl, (_, refused refl, refl))))),
        ),
      ),
    ),
  ),
)

pub other_volumes : OtherVolumes
other_volumes = (
  _,
  (
    _,
    refused refl,
    (
      _,
      refused refl,
      (
        _,
        refused refl,
        (_, refused refl, (_, refused refl, (_, refused refl, (_, refused refl, (_, refused refl, refl))))),
      ),
    ),
  ),
)

pub headers_run_out : HeadersRunOut
unfolding free_slots is_held zero_blocks lacks_headers slots_first
headers_run_out = (
  _,
  (
    _,
    served refl (after_slot refl
        (slot_more 2 100 refl
        (record { headers = omega arith; no_fewer = omega arith; no_more = omega arith; places = refl; filled = λ h. omega arith }))
        (omega arith) refl),
    (
      _,
      served refl (after_slot refl
          (slot_more 3 99 refl
          (record { headers = omega arith; no_fewer = omega arith; no_more = omega arith; places = refl; filled = λ h. omega arith }))
          (omega arith) (grows 1 103 101 refl
          (record { headers = omega arith; no_fewer = omega arith; no_more = omega arith; places = refl; filled = λ h. omega arith }))),
      (
        _,
        served refl (at_once refl (omega arith)
            (grows 0 1 101 refl (record {
              headers = omega arith;
              no_fewer = omega arith;
              no_more = omega arith;
              places = refl;
              filled = λ h. omega arith;
            }))),
        (
          _,
          served refl refl,
          (
            _,
            served refl (after_slot refl
                (slot_more 4 98 refl
                (record { headers = omega arith; no_fewer = omega arith; no_more = omega arith; places = refl; filled = λ h. omega arith }))
                (omega arith) (grows 0 2 100 refl
                (record {
                  headers = omega arith;
                  no_fewer = omega arith;
                  no_more = omega arith;
                  places = refl;
                  filled = λ h. omega arith;
                }))),
            (
              _,
              served refl refl,
              (
                _,
                served refl (record {
                  grown = _;
                  grows = grows 0 5 97 refl
                      (record {
                        headers = omega arith;
                        no_fewer = omega arith;
                        no_more = omega arith;
                        places = refl;
                        filled = λ h. omega arith;
                      });
                  store_is = refl;
                }),
                (_, refused refl, (_, refused refl, (_, refused refl, refl))),
              ),
            ),
          ),
        ),
      ),
    ),
  ),
)

pub slots_run_out : SlotsRunOut
unfolding free_slots is_held zero_blocks lacks_headers slots_first
slots_run_out = (
  (_, (_, refused refl, (_, refused refl, refl))),
  (_, (_, refused refl, (_, refused refl, refl))),
  (_, (_, refused refl, refl)),
  (_, (_, refused refl, (_, refused refl, refl))),
)

pub refused_for_slots_alone : RefusedForSlotsAlone
unfolding free_slots is_held zero_blocks lacks_headers slots_first stated_end is_directory record_at entries_of has_name record_bytes
    with_end own_records mfd_block
refused_for_slots_alone = record {
  free_header = λ s' block' h. h.may_refuse;
  room_left = λ s' block' h. h.may_refuse;
  empty_record = λ s' block' h. h.may_refuse;
  no_slot = λ s' block' h. let same : NoMemory ≡ NoHeader = h.may_refuse in absurd (cc);
  slot_first = λ s' block' h. let same : NoHeader ≡ NoMemory = h.may_refuse in absurd (cc);
}

pub entered_and_removed : EnteredAndRemoved
unfolding free_slots is_held zero_blocks lacks_headers slots_first stated_end is_directory record_at entries_of has_name record_bytes
    with_record with_end own_records mfd_block
entered_and_removed = (
  _,
  (
    _,
    refused refl,
    (
      _,
      served refl refl,
      (
        _,
        served refl refl,
        (_, refused refl, (_, served refl refl, (_, refused refl, (_, served refl refl, (_, refused refl, (_, refused refl, refl)))))),
      ),
    ),
  ),
)

pub entered_in_new_block : EnteredInNewBlock
unfolding free_slots is_held zero_blocks lacks_headers slots_first zero_block stated_end is_directory record_at entries_of has_name
    record_bytes with_record with_end own_records crowded_block
entered_in_new_block = (
  _,
  (
    _,
    refused refl,
    (
      _,
      served refl (
        _,
        at_once refl (omega arith)
            (grows 0 2 100 refl (record {
              headers = omega arith;
              no_fewer = omega arith;
              no_more = omega arith;
              places = refl;
              filled = λ h. omega arith;
            })),
        refl,
      ),
      (_, served refl refl, (_, served refl refl, (_, served refl refl, refl))),
    ),
  ),
)

pub entered_behind_slot : EnteredBehindSlot
unfolding free_slots is_held zero_blocks lacks_headers slots_first zero_block stated_end is_directory record_at entries_of has_name
    record_bytes with_record with_end own_records crowded_block
entered_behind_slot = (
  _,
  (
    _,
    served refl (
      _,
      after_slot refl
          (slot_more 2 100 refl
          (record { headers = omega arith; no_fewer = omega arith; no_more = omega arith; places = refl; filled = λ h. omega arith }))
          (omega arith) (grows 1 103 101 refl
          (record { headers = omega arith; no_fewer = omega arith; no_more = omega arith; places = refl; filled = λ h. omega arith })),
      refl,
    ),
    (_, served refl refl, (_, served refl refl, (_, served refl refl, refl))),
  ),
)

pub end_moves : EndMoves
unfolding with_end
end_moves = refl

pub bounds : Bounds
unfolding stated_end with_end is_held free_slots is_directory entries_of record_at mfd_block own_records record_bytes
bounds = record {
  create = refl;
  find = refl;
  enter = refl;
  remove = refl;
  delete = refl;
  grow = refl;
  extend = refl;
  read = refl;
  close = refl;
  release = refl;
}

pub bounds_behind_slots : BoundsBehindSlots
unfolding stated_end with_end free_slots is_directory entries_of record_at mfd_block crowded_block own_records record_bytes
bounds_behind_slots = record {
  made = refl;
  not_made = refl;
  extended = refl;
  entered_in_place = refl;
  entered = refl;
}
