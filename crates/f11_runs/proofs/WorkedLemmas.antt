-- The worked examples, computed.
use Rattle.std.proofs.Common.{◌≡◌, ◌≢◌, ℕ, ◌==◌, ◌||◌, Bool, true, false, List, [], ◌∷◌, Option, Some, None, refl, sym, ◌∙◌, ap, subst, All}
use Rattle.std.proofs.Common.{take, drop, slice_index_or, lit<, if◌then◌else◌}
use Rattle.std.specs.List.{list_any}
use Rattle.std.proofs.lemmas.Bool.{eqb-true}
use Rattle.std.proofs.lemmas.List.Elements.{All-nil, All-cons}
use Rattle.f11_store.specs.declared.callers.Uic.{Uic}
use Rattle.f11_store.specs.declared.refusals.Refusal.{Refusal}
use Rattle.f11_store.specs.declared.requests.Reply.TheVariants as reply
use Rattle.f11_store.specs.declared.requests.Request.{Request}
use Rattle.f11_store.specs.declared.requests.Request.TheVariants as request
use Rattle.f11_store.specs.File.{File, stated_end}
use Rattle.f11_store.specs.Directory.{is_directory, record_at, entries_of, has_name, record_bytes, with_record, with_end}
use Rattle.f11_store.specs.Store.{Store, free_slots, is_held}
use Rattle.f11_store.specs.Causes.{first_refusal}
use Rattle.f11_store.specs.Changes.{Changes, is_in}
use Rattle.f11_store.specs.Run.{Call, Answer}
use Rattle.f11_store.specs.Step.{MayRefuse, Refuses, Serves, reply_of, block_after, asks_for_run, may_want_memory}
use Rattle.f11_store.specs.Worked.{small_volume, own_files, own_records, mfd_block, id, asks, gets}
use Rattle.f11_store.proofs.StoreLemmas.{other_number}
use Rattle.f11_runs.specs.Locked.{ends}
use Rattle.f11_runs.specs.Standing.{AreDistinct, HoldsItsOwn, HoldApart}
use Rattle.f11_runs.specs.Worked.{SmallStands, locked_calls, locked_answers, LockedIsAnswered, BothAreLocked}
use Rattle.f11_runs.proofs.SlotLists.{in-one, neither}
use Rattle.f11_runs.proofs.StandingSteps.{unaccessed-stands}

-- a file that holds its own slot alone
abbrev pub HoldsOne : Store → ℕ → File → Type 0
HoldsOne s n f = (f.held ≡ n ∷ []) × (s.in_use n ≡ true)

-- where each file does, they hold their slots apart
ones-apart : (s : Store) → ((n : ℕ) (f : File) → s.file n ≡ Some f → HoldsOne s n f) → HoldApart s
ones-apart s one = record {
  each = λ n f is. own n f (one n f is);
  apart = λ n m k f g ne is so h. other n m k f g ne (one n f is) (one m g so) h;
}
  where
    own : (n : ℕ) (f : File) → HoldsOne s n f → HoldsItsOwn s n f
    own n f (held, used) = record {
      first = ap (take 1) held;
      used = λ m h. subst (λ (k : ℕ). s.in_use k ≡ true) (in-one n m (sym (ap (λ xs. is_in xs m) held) ∙ h)) used;
      once = subst AreDistinct (sym held) (refl, tt);
    }

    other : (n m k : ℕ) (f g : File) → n ≢ m → HoldsOne s n f → HoldsOne s m g → is_in f.held k ≡ true → is_in g.held k ≡ false
    other n m k f g ne (held, _) (holds, _) h =
        let same : n ≡ k = in-one n k (sym (ap (λ xs. is_in xs k) held) ∙ h) in
        ap (λ xs. is_in xs k) holds ∙ neither (m == k) false (other_number m k (λ e. ne (same ∙ sym e))) refl

-- the five files of the small volume
five-ones : (n : ℕ) (f : File) → own_files n ≡ Some f → HoldsOne small_volume n f
five-ones n f is =
    one-of 1 _ _ refl refl (one-of 2 _ _ refl refl
    (one-of 3 _ _ refl refl (one-of 4 _ _ refl refl (one-of 5 _ _ refl refl (λ none. absurd (cc)))))) is
  where
    one-of : (k : ℕ) (g : File) (rest : Option File) → g.held ≡ k ∷ [] → small_volume.in_use k ≡ true
        → (rest ≡ Some f → HoldsOne small_volume n f) →
        (if n == k then Some g else rest) ≡ Some f → HoldsOne small_volume n f
    one-of k g rest held used more h = by_test (n == k) refl h
      where
        by_test : (b : Bool) → (n == k) ≡ b → (if b then Some g else rest) ≡ Some f → HoldsOne small_volume n f
        by_test true e so =
            let same : g ≡ f = cc in
            subst (λ (i : ℕ). HoldsOne small_volume i f) (sym (eqb-true n k e)) (ap (λ (x : File). x.held) (sym same) ∙ held, used)
        by_test false e so = more so

pub small-stands : SmallStands
small-stands = unaccessed-stands small_volume (ones-apart small_volume five-ones) (λ task lun. refl)

-- a step that is refused, and one that is served
refused :
    {s : Store} {task : ℕ} {caller : Uic} {r : Request} {block : List ℕ} {e : Refusal} →
    MayRefuse (first_refusal s task caller r) (may_want_memory s task r) (asks_for_run r) e → Refuses s task caller r block e s block
refused h = record { may_refuse = h; store_stays = refl; block_stays = refl }

served :
    {s : Store} {task : ℕ} {caller : Uic} {r : Request} {block : List ℕ} {s' : Store} →
    first_refusal s task caller r ≡ None → Changes s task caller r block s' →
    Serves s task caller r block (reply_of s task r) s' (block_after s task r block)
served h k = record { no_cause = h; reply_is = refl; changes = k; block_is = refl }

pub locked-is-answered : LockedIsAnswered
unfolding free_slots is_held stated_end is_directory record_at entries_of has_name record_bytes with_record with_end own_records mfd_block
locked-is-answered = (
  _,
  (
    _,
    served refl refl,
    (
      _,
      served refl refl,
      (
        _,
        refused refl,
        (
          _,
          refused refl,
          (
            _,
            refused refl,
            (
              _,
              served refl refl,
              (
                _,
                served refl refl,
                (_, served refl refl, (_, served refl refl, (_, refused refl, (_, served refl refl, (_, served refl refl, refl))))),
              ),
            ),
          ),
        ),
      ),
    ),
  ),
)

-- calls of which none ends the access of task 1 by lun 0
goes-on : (cs : List Call) → list_any (λ c. ends 1 0 c) cs ≡ false → All (λ c. ends 1 0 c ≡ false) cs
goes-on [] h = All-nil (λ c. ends 1 0 c ≡ false)
goes-on (c ∷ cs) h =
    All-cons (λ c. ends 1 0 c ≡ false) c cs (left (ends 1 0 c) (list_any (λ c. ends 1 0 c) cs) h)
    (goes-on cs (right (ends 1 0 c) (list_any (λ c. ends 1 0 c) cs) h))
  where
    left : (b c : Bool) → (b || c) ≡ false → b ≡ false
    left false c h = refl
    left true c h = absurd (cc)

    right : (b c : Bool) → (b || c) ≡ false → c ≡ false
    right false c h = h
    right true c h = absurd (cc)

pub both-are-locked : BothAreLocked
both-are-locked = (
  (
    record {
      before = take 1 locked_calls;
      access = slice_index_or locked_calls 1 none;
      between = take 6 (drop 2 locked_calls);
      read = slice_index_or locked_calls 8 none;
      after = drop 9 locked_calls;
      calls_are = refl;
      told = take 1 locked_answers;
      granted = slice_index_or locked_answers 1 nothing;
      meanwhile = take 6 (drop 2 locked_answers);
      given = slice_index_or locked_answers 8 nothing;
      rest = drop 9 locked_answers;
      answers_are = refl;
      as_many = refl;
      as_many_between = refl;
      id = id 4 4;
      lun = 0;
      vbn = 1;
      locks = refl;
      done = refl;
      goes_on = goes-on (take 6 (drop 2 locked_calls)) refl;
      task = refl;
      reads = refl;
      some = lit< tt;
    },
    refl,
  ),
  (
    record {
      before = take 1 locked_calls;
      access = slice_index_or locked_calls 1 none;
      between = take 7 (drop 2 locked_calls);
      read = slice_index_or locked_calls 9 none;
      after = drop 10 locked_calls;
      calls_are = refl;
      told = take 1 locked_answers;
      granted = slice_index_or locked_answers 1 nothing;
      meanwhile = take 7 (drop 2 locked_answers);
      given = slice_index_or locked_answers 9 nothing;
      rest = drop 10 locked_answers;
      answers_are = refl;
      as_many = refl;
      as_many_between = refl;
      id = id 4 4;
      lun = 0;
      vbn = 2;
      locks = refl;
      done = refl;
      goes_on = goes-on (take 7 (drop 2 locked_calls)) refl;
      task = refl;
      reads = refl;
      some = lit< tt;
    },
    refl,
  ),
)
  where
    none : Call
    none = asks 0 request.Space

    nothing : Answer
    nothing = gets reply.Done
