-- Locked accesses through a run, and what is read by them.
use Rattle.std.proofs.Common.{◌≡◌, ℕ, suc, ◌-◌, ◌<◌, ◌==◌, ◌&&◌, Bool, true, false, List, [], ◌∷◌, ◌++◌, length, Some, None, Result, Ok}
use Rattle.std.proofs.Common.{Err, refl, sym, ◌∙◌, ap, subst, arith, All, is_none, is_some, if◌then◌else◌, nat_lt, slice_index_or}
use Rattle.std.proofs.Common.{length-append}
use Rattle.std.proofs.lemmas.List.{get_or_append_left}
use Rattle.std.proofs.lemmas.Bool.{ltb-true, ltb-false, ne_eqb, eq-eqb, eqb-true, and_parts, and_from, and_right}
use Rattle.f11_store.specs.declared.files.Mode.TheVariants as mode
use Rattle.f11_store.specs.declared.refusals.Refusal.{Refusal}
use Rattle.f11_store.specs.declared.refusals.Refusal.TheVariants.{BadArgument, NoSuchAccess, EndOfFile}
use Rattle.f11_store.specs.declared.requests.Reply.{Reply}
use Rattle.f11_store.specs.declared.requests.Reply.TheVariants as reply
use Rattle.f11_store.specs.declared.requests.Request.{Request}
use Rattle.f11_store.specs.declared.requests.Request.TheVariants as request
use Rattle.f11_store.specs.Accesses.{FreeIsEmpty}
use Rattle.f11_store.specs.File.{File, is_marked}
use Rattle.f11_store.specs.Store.{Store, file_named, file_held, id_in, is_same, is_held, bars}
use Rattle.f11_store.specs.Causes.{is_missing, holds_none, is_bad, lacks_for}
use Rattle.f11_store.specs.Step.{Step, MayRefuse, block_at}
use Rattle.f11_store.specs.Run.{Call, Answer, Run}
use Rattle.f11_store.proofs.StoreLemmas.{none_first, none_rest}
use Rattle.f11_runs.specs.Each.{Steps, Within}
use Rattle.f11_runs.specs.Laws.{LockedBegins, LockedStays, LockedIsRead, EndIsServed, LockedReadIs, TidyLocksHold, RunLocksHold}
use Rattle.f11_runs.specs.Locked.{IsLocked, IsReadOf, ends, gives_up}
use Rattle.f11_runs.specs.Standing.{TidyRun, IsTasks, lun_of}
use Rattle.f11_runs.proofs.AccessLemmas.{held-with}
use Rattle.f11_runs.proofs.EachLaws.{each-parts, each-seen, steps-are-run}
use Rattle.f11_runs.proofs.LockedSteps.{locked-step}
use Rattle.f11_runs.proofs.StandingSteps.{step-accesses, accesses-stay, standing-run-is-tidy}

-- a locked file through a run
pub locked-stays : LockedStays
locked-stays s s' task lun id blocks [] [] low small standing calls none is run =
    subst (λ (x : Store). IsLocked x task lun id blocks) (sym run) is
locked-stays s s' task lun id blocks (c ∷ cs) (a ∷ rest) low small standing calls none is (between, (empty, step, _), run) =
    let first : IsTasks c = calls 0 c (omega arith) in
    let goes_on : ends task lun c ≡ false = none 0 c (omega arith) in
    locked-stays between s' task lun id blocks cs rest low small (step-accesses s between c a empty standing step)
    (λ k d within. calls (suc k) d (omega (arith, within))) (λ k d within. none (suc k) d (omega (arith, within)))
    (locked-step s task lun id blocks low small is standing empty c.task c.caller c.request c.block a.result between a.block first.task
    first.lun goes_on step)
    run
locked-stays s s' task lun id blocks [] (a ∷ rest) low small standing calls none is run = absurd run
locked-stays s s' task lun id blocks (c ∷ cs) [] low small standing calls none is run = absurd run

-- what is read by its access
pub locked-is-read : LockedIsRead
locked-is-read s s' task lun id blocks caller vbn block block' result is some h = by_answer result h
  where
    same : file_held s task lun ≡ file_named s id
    same = ap (λ o. file_named s (id_in o)) is.holds

    long : length (file_held s task lun).blocks ≡ length blocks
    long = ap (λ (f : File). length f.blocks) same ∙ ap (λ (bs : List (List ℕ)). length bs) is.blocks_are

    by_test : (b : Bool) → nat_lt (length (file_held s task lun).blocks) vbn ≡ b → (e : Refusal)
        → MayRefuse (if b then Some EndOfFile else None) false false e → (length blocks < vbn) × (e ≡ EndOfFile)
    by_test true e r may = (let below = ltb-true (length (file_held s task lun).blocks) vbn e in omega (arith, below, long), may)
    by_test false e r may = absurd may

    by_answer : (result : Result Reply Refusal) → Step s task caller (request.ReadBlock lun vbn) block result s' block'
        → IsReadOf blocks vbn result block'
    by_answer (Ok a) h =
        let one = none_rest (vbn == 0) _ _ h.no_cause in
        let two = none_rest (holds_none s task lun) _ _ one in
        let within = ltb-false (length (file_held s task lun).blocks) vbn
        (none_first (nat_lt (length (file_held s task lun).blocks) vbn) _ _ two) in (
          omega (arith, within, long),
          h.reply_is,
          h.block_is ∙ ap (λ (f : File). block_at f vbn) same
              ∙ ap (λ (bs : List (List ℕ)). slice_index_or bs (vbn - 1) []) is.blocks_are,
        )
    by_answer (Err e) h =
        let zero_not : (vbn == 0) ≡ false = ne_eqb vbn 0 (λ z. omega (arith, z, some)) in
        let held : holds_none s task lun ≡ false = ap is_none is.holds in
        by_test (nat_lt (length (file_held s task lun).blocks) vbn) refl e
        (subst (λ o. MayRefuse o false false e)
        (ap (λ b. if b then Some BadArgument
        else (if holds_none s task lun then Some NoSuchAccess
        else (if nat_lt (length (file_held s task lun).blocks) vbn then Some EndOfFile else None))) zero_not
        ∙ ap (λ b. if b then Some NoSuchAccess else (if nat_lt (length (file_held s task lun).blocks) vbn then Some EndOfFile else None))
        held) h.may_refuse)

-- an access that is answered in mode Locked
pub locked-begins : LockedBegins
locked-begins s s' task lun caller id block block' a low small h =
    let one = none_rest (is_bad id) _ _ h.no_cause in
    let two = none_rest (is_some (s.access task lun)) _ _ one in
    let three = none_rest (nat_lt id.number 4) _ _ two in
    let four = none_rest (is_missing s id) _ _ three in
    let five = none_rest (is_marked (file_named s id)) _ _ four in
    let six = none_rest (lacks_for mode.Locked caller (file_named s id)) _ _ five in
    subst (λ (x : Store). IsLocked x task lun id (file_named s id).blocks) (sym h.changes) (record {
      holds = ap (λ b. if b then Some (record { file = id; mode = mode.Locked }) else s.access task lun)
          (and_from (task == task) (lun == lun) (eq-eqb task task refl) (eq-eqb lun lun refl));
      own = ltb-false id.number 4 (none_first (nat_lt id.number 4) _ _ two);
      alone = held-with (bars mode.Locked) s task lun (Some (record { file = id; mode = mode.Locked })) id
          (none_first (is_held (bars mode.Locked) s id) _ _ six) (and_right (is_same id id) false refl);
      there = none_first (is_missing s id) _ _ three;
      blocks_are = refl;
    })

-- what ends it
pub end-is-served : EndIsServed
end-is-served s s' task lun id blocks c a is ends_it h = by_request c.request c.task a.result ends_it h
  where
    by_request : (r : Request) (t : ℕ) (result : Result Reply Refusal) → ((t == task) && gives_up lun r) ≡ true
        → Step s t c.caller r c.block result s' a.block → result ≡ Ok reply.Done
    by_request (request.Deaccess l) t (Ok x) e k = ap Ok k.reply_is
    by_request (request.Deaccess l) t (Err x) e k =
        let parts = and_parts (t == task) (l == lun) e in
        let here : s.access t l ≡ s.access task lun = ap (λ (n : ℕ). s.access n l) (eqb-true t task parts.0)
        ∙ ap (s.access task) (eqb-true l lun parts.1) in
        let held : holds_none s t l ≡ false = ap is_none (here ∙ is.holds) in
        absurd (subst (λ (b : Bool). MayRefuse (if b then Some NoSuchAccess else None) false false x) held k.may_refuse)
    by_request request.Release t (Ok x) e k = ap Ok k.reply_is
    by_request request.Release t (Err x) e k = absurd k.may_refuse
    by_request _ t result e k = absurd (let parts = and_parts (t == task) false e in cc (parts.1))

-- the calls of a part of a list
all-before : {X : Type 0} (P : X → Type 0) (xs ys : List X) → All P (xs ++ ys) → All P xs
all-before P xs ys h = λ k d within. subst P (get_or_append_left xs ys d k within) (h k d (omega (arith, within, length-append xs ys)))

all-behind : {X : Type 0} (P : X → Type 0) (xs ys : List X) → All P (xs ++ ys) → All P ys
all-behind P [] ys h = h
all-behind P (x ∷ xs) ys h = all-behind P xs ys (λ k d within. h (suc k) d (omega (arith, within)))

-- an access, calls that don't end it, and a read by it
pub locked-read-is : LockedReadIs
locked-read-is s t u v access read granted given between meanwhile id lun vbn empty standing tasks others locks done goes_on task reads some
    one run two =
    locked-is-read u v access.task lun id (file_named s id).blocks read.caller vbn read.block given.block given.result
    (locked-stays t u access.task lun id (file_named s id).blocks between meanwhile tasks.task small
    (step-accesses s t access granted empty standing one) others goes_on begun run)
    some reading
  where
    small : lun < 4
    small = subst (λ (r : Request). lun_of r < 4) locks tasks.lun

    begun : IsLocked t access.task lun id (file_named s id).blocks
    begun =
        locked-begins s t access.task lun access.caller id access.block granted.block reply.Done tasks.task small
        (subst (λ (r : Request). Step s access.task access.caller r access.block (Ok reply.Done) t granted.block) locks
        (subst (λ (x : Result Reply Refusal). Step s access.task access.caller access.request access.block x t granted.block) done one))

    reading : Step u access.task read.caller (request.ReadBlock lun vbn) read.block given.result v given.block
    reading =
        subst (λ (r : Request). Step u access.task read.caller r read.block given.result v given.block) reads
        (subst (λ (n : ℕ). Step u n read.caller read.request read.block given.result v given.block) task two)

-- a run at each store of which no file is in a slot that isn't in use is a run
tidy-runs : (s s' : Store) (cs : List Call) (bs : List Answer) → TidyRun s cs bs s' → Run s cs bs s'
tidy-runs s s' cs bs h = steps-are-run s s' cs bs (each-seen (Within FreeIsEmpty Steps) Steps (λ t. t) (λ t u c a one. one.1) s s' cs bs h)

-- a read by a locked access among the calls of a run
pub tidy-locks-hold : TidyLocksHold
tidy-locks-hold s s' calls answers tasks standing run r =
    let first = each-parts (Within FreeIsEmpty Steps) s s' r.before behind r.told told_behind r.as_many whole in
    by_parts first.0 first.1 first.2
  where
    behind : List Call
    behind = r.access ∷ (r.between ++ r.read ∷ r.after)

    told_behind : List Answer
    told_behind = r.granted ∷ (r.meanwhile ++ r.given ∷ r.rest)

    whole : TidyRun s (r.before ++ behind) (r.told ++ told_behind) s'
    whole =
        subst (λ (bs : List Answer). TidyRun s (r.before ++ behind) bs s') r.answers_are
        (subst (λ (cs : List Call). TidyRun s cs answers s') r.calls_are run)

    later : All IsTasks behind
    later = all-behind IsTasks r.before behind (subst (All IsTasks) r.calls_are tasks)

    by_parts : (at_access : Store) → TidyRun s r.before r.told at_access → TidyRun at_access behind told_behind s' →
        (t : Store) × (Run s r.before r.told t) × (Run t behind told_behind s')
        × (IsReadOf (file_named t r.id).blocks r.vbn r.given.result r.given.block)
    by_parts at_access so_far (t, one, more) =
        let second = each-parts (Within FreeIsEmpty Steps) t s' r.between (r.read ∷ r.after) r.meanwhile (r.given ∷ r.rest)
        r.as_many_between more in (
          at_access,
          tidy-runs s at_access r.before r.told so_far,
          tidy-runs at_access s' behind told_behind (t, one, more),
          locked-read-is at_access t second.0 second.2.0 r.access r.read r.granted r.given r.between r.meanwhile r.id r.lun r.vbn
              one.0 (accesses-stay s at_access r.before r.told standing so_far) (later 0 r.access (omega arith))
              (all-before IsTasks r.between (r.read ∷ r.after) (λ k d within. later (suc k) d (omega (arith, within))))
              r.locks r.done r.goes_on r.task r.reads r.some one.1 second.1 second.2.1.1,
        )

pub run-locks-hold : RunLocksHold
run-locks-hold s s' calls answers tasks standing run =
    tidy-locks-hold s s' calls answers tasks standing.accesses (standing-run-is-tidy s s' calls answers standing run)
