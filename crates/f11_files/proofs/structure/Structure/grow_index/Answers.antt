use Rattle.std.proofs.Common.{◌≡◌, IsTrue, Some, None, false, length, refl, sym, ◌∙◌, arith}
use Rattle.f11_index.specs.IndexFile.{slots, free_slots_in}
use Rattle.f11_store.specs.Causes.{first_of}
use Rattle.f11_files.specs.Extending.Room.{room_causes}
use Rattle.f11_files.specs.GrowingIndex.Runs.{index_id, FailsToGrow}
use Rattle.f11_files.specs.Operations.{grow_causes, held_causes, IsSpaceOf}
use Rattle.f11_files.specs.Structure.{home_of, index_in, store_on}
use Rattle.f11_files.proofs.AnswerLemmas.{handed}
use Rattle.f11_dev.proofs.LookedLemmas.{looked_none}
use Rattle.f11_files.proofs.Behind.{confined-read, more-looked, more-of, stays-handed, unread-wants}
use Rattle.f11_files.proofs.Extending.Room.{causes-alike, has-room, lacks-alike, lacks-cause, lacks-room, lacks-want}
use Rattle.f11_files.proofs.GrowingIndex.Grow.{fails-then, grows-then}
use Rattle.f11_files.proofs.GrowingIndex.GrowIndex.{slots-after}
use Rattle.f11_files.proofs.GrowingIndex.IndexFile.{index-named}
use Rattle.f11_files.proofs.GrowingIndex.Room.{at-limit, finds-reads, grow-are, has-slots, lacks-slots}
use Rattle.f11_files.proofs.Opening.Kept.{looked-for}
use Rattle.f11_files.proofs.Opening.Space.{space-is}
use Rattle.f11_files.proofs.WriteLemmas.{as-wanting, fails-unread, looked-stays}
use Rattle.f11_files.proofs.structure.Structure.grow_index.Goals as goal

pub returns-then-n-slots_left-clause-refused : goal.returns-then-n-slots_left-clause-refused
returns-then-n-slots_left-clause-refused g c =
    as-wanting (λ is. omega (arith, is)) (fails-unread (omega arith)
    (at-limit c.args.self.now c.args.n _ c.requires.is_for _ _ _ refl refl c.slots_left.ensures c.if-n-slots_left.true c.requires.some))

pub returns-in_err-end-clause-refused : goal.returns-in_err-end-clause-refused
returns-in_err-end-clause-refused g c =
    handed (λ r. FailsToGrow false (home_of c.args.self.now) c.args.n r (g.D.Device.disk c.args.device.now)
    (g.D.Device.disk c.find_index_end.new.device)) c.from_residual.result _ c.from_residual.ensures.1
    (unread-wants (omega arith) c.in_err-end.ensures.refused)

pub returns-in_err-judge-clause-refused : goal.returns-in_err-judge-clause-refused
returns-in_err-judge-clause-refused g c =
    let s = c.args.self.now in
    let old = g.D.Device.disk c.args.device.now in
    let n = c.args.n in
    let finds = c.in_ok-end.ensures.end in
    let fits = c.if-n-slots_left.false in
    let r = c.in_err-judge.field-0.0 in
    let space : IsTrue old.honest
    → IsSpaceOf (store_on s old) c.free-free.result (length (free_slots_in (index_in s))) (slots (index_in s)) = λ honest.
    space-is s old c.requires.is_for honest _ _ _ c.free-free.ensures.free refl refl in
    let is : first_of (room_causes c.in_ok-end.end.headers c.room_of-room.result c.free-free.result (length (free_slots_in (index_in s))) n)
    ≡ Some r = sym (causes-alike _ _ _ _ _ n (lacks-alike _ _ _ (rw (← c.need.ensures.need) c.headers_for-free_headers.ensures)))
    ∙ c.in_err-judge.ensures.refused in
    handed (λ r. FailsToGrow false (home_of s) n r old (g.D.Device.disk c.find_index_end.new.device)) c.from_residual-in_err-judge.result r
    c.from_residual-in_err-judge.ensures.1
    (as-wanting (lacks-want _ _ _ _ n r is) (fails-unread (omega arith)
    (lacks-slots s n old c.requires.is_for _ _ _ refl refl c.slots_left.ensures (omega (arith, fits)) c.requires.some r _
    (lacks-cause _ _ _ _ n r is)
    (lacks-room s index_id _ old c.requires.is_for finds.holds _ _ _ finds.ends _ _ _ (slots (index_in s)) n c.room_of-room.ensures space r
    is))))

pub grow_held-requires-clause-room : goal.grow_held-requires-clause-room
grow_held-requires-clause-room g c =
    let s = c.args.self.now in
    let old = g.D.Device.disk c.args.device.now in
    let n = c.args.n in
    let finds = c.in_ok-end.ensures.end in
    let fits = c.if-n-slots_left.false in
    let none : first_of (room_causes c.in_ok-end.end.headers c.room_of-room.result c.free-free.result (length (free_slots_in (index_in s)))
    n) ≡ None = sym (causes-alike _ _ _ _ _ n (lacks-alike _ _ _ (rw (← c.need.ensures.need) c.headers_for-free_headers.ensures)))
    ∙ c.in_ok-judge.ensures.room in
    has-slots s n old c.requires.is_for _ _ _ refl refl c.slots_left.ensures (omega (arith, fits)) c.requires.some _ _ _ _ finds
    (has-room s index_id _ old c.requires.is_for finds.holds _ _ _ finds.ends _ _ _ (slots (index_in s)) n c.room_of-room.ensures
    (λ honest. space-is s old c.requires.is_for honest c.free-free.result _ _ c.free-free.ensures.free refl refl) none)

pub returns-in_err-grow_held-clause-refused : goal.returns-in_err-grow_held-clause-refused
returns-in_err-grow_held-clause-refused g c =
    let s = c.args.self.now in
    let old = g.D.Device.disk c.args.device.now in
    let n = c.args.n in
    let finds = c.in_ok-end.ensures.end in
    let fits = c.if-n-slots_left.false in
    let none : first_of (room_causes c.in_ok-end.end.headers c.room_of-room.result c.free-free.result (length (free_slots_in (index_in s)))
    n) ≡ None = sym (causes-alike _ _ _ _ _ n (lacks-alike _ _ _ (rw (← c.need.ensures.need) c.headers_for-free_headers.ensures)))
    ∙ c.in_ok-judge.ensures.room in
    let held : IsTrue old.honest → first_of (held_causes (store_on s old) index_id n) ≡ None =
    has-room s index_id _ old c.requires.is_for finds.holds _ _ _ finds.ends _ _ _ (slots (index_in s)) n c.room_of-room.ensures
    (λ honest. space-is s old c.requires.is_for honest c.free-free.result _ _ c.free-free.ensures.free refl refl) none in
    handed (λ r. FailsToGrow false (home_of s) n r old (g.D.Device.disk c.grow_held.new.device)) c.from_residual-in_err-grow_held.result _
    c.from_residual-in_err-grow_held.ensures.1
    (fails-then (home_of s) n old _ (finds-reads s old c.requires.is_for _ _ _ _ finds) (grow_causes (store_on s old) n)
    (λ honest. grow-are s n old c.requires.is_for _ _ _ refl refl c.slots_left.ensures (omega (arith, fits)) c.requires.some honest
    ∙ held honest) _ _ c.in_err-grow_held.ensures.refused)

pub returns-in_err-grow_held-clause-stays : goal.returns-in_err-grow_held-clause-stays
returns-in_err-grow_held-clause-stays g c =
    stays-handed c.from_residual-in_err-grow_held.result _ _ _ _ c.from_residual-in_err-grow_held.ensures.1 c.in_err-grow_held.ensures.stays

pub returns-in_err-grow_held-clause-confined : goal.returns-in_err-grow_held-clause-confined
returns-in_err-grow_held-clause-confined g c =
    let s = c.args.self.now in
    more-of s (home_of s) 1 _ _ refl c.requires.is_for (λ sure. (index-named _ (home_of s) (c.requires.is_for.sound sure)).0)
    (confined-read (finds-reads s _ c.requires.is_for _ _ _ _ c.in_ok-end.ensures.end) (home_of s) s 1 refl c.grow_held.ensures.confined)

pub returns-clause-grown : goal.returns-clause-grown
returns-clause-grown g c =
    let s = c.args.self.now in
    let grown = grows-then (home_of s) c.args.n _ _ (finds-reads s _ c.requires.is_for _ _ _ _ c.in_ok-end.ensures.end) _
    c.in_ok-grow_held.ensures.grown in (
      slots-after s c.grow_held.new.self c.args.n _ _ _ grown c.in_ok-grow_held.ensures.stays c.slots.ensures,
      grown,
    )

pub returns-clause-stays : goal.returns-clause-stays
returns-clause-stays g c = c.in_ok-grow_held.ensures.stays

pub returns-clause-confined : goal.returns-clause-confined
returns-clause-confined g c =
    let s = c.args.self.now in
    more-of s (home_of s) 1 _ _ refl c.requires.is_for (λ sure. (index-named _ (home_of s) (c.requires.is_for.sound sure)).0)
    (confined-read (finds-reads s _ c.requires.is_for _ _ _ _ c.in_ok-end.ensures.end) (home_of s) s 1 refl c.grow_held.ensures.confined)

pub returns-then-n-slots_left-clause-confined : goal.returns-then-n-slots_left-clause-confined
returns-then-n-slots_left-clause-confined g c = more-looked (home_of c.args.self.now) 1 (looked_none _)

pub returns-in_err-end-clause-confined : goal.returns-in_err-end-clause-confined
returns-in_err-end-clause-confined g c = more-looked (home_of c.args.self.now) 1 c.in_err-end.ensures.refused.reads.looked

pub returns-in_err-judge-clause-confined : goal.returns-in_err-judge-clause-confined
returns-in_err-judge-clause-confined g c = more-looked (home_of c.args.self.now) 1 c.in_ok-end.ensures.end.ends.looked.looked

pub grow_held-requires-clause-is_for : goal.grow_held-requires-clause-is_for
grow_held-requires-clause-is_for g c =
    looked-for c.args.self.now _ _ _ _ c.requires.is_for c.in_ok-end.ensures.end.ends.looked.looked

pub returns-in_err-judge-clause-stays : goal.returns-in_err-judge-clause-stays
returns-in_err-judge-clause-stays g c =
    looked-stays c.args.self.now _ _ _ c.requires.is_for c.in_ok-end.ensures.end.ends.looked.looked
