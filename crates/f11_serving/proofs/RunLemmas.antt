-- What lines that are served tell: answers one after another, and a run where they are steps of the plain store.
use Rattle.std.proofs.Common.{◌≡◌, ℕ, ◌+◌, ◌≤◌, Bool, true, List, [], ◌∷◌, ◌++◌, length, refl, sym, ◌∙◌, ap, subst, arith}
use Rattle.f11_store.specs.Run.{Call, Answer}
use Rattle.f11_script.specs.Answers.{answer_line, bad_line_text}
use Rattle.f11_script.specs.Lines.{Line, no_request, bad_line, request_line, line_of}
use Rattle.f11_script.specs.Asking.{Saying, nothing, badly, says, saying_of, asked_by, line_with, requests_in}
use Rattle.f11_script.proofs.AskingLemmas.{line_asks_alone}
use Rattle.f11_serving.specs.Served.{Service, Behind, ServesLine, ServesLines}
use Rattle.f11_runs.specs.Each.{AddsCost, Each, IsSeenAs, Steps}
use Rattle.f11_runs.proofs.EachLaws.{steps-are-run as each-is-run}
use Rattle.f11_serving.specs.Laws.{calls_of, text_with, text_of, TellsAnswers, RequestsAreAnswered, LinesAreRun, SoundIsRun}

-- a line, and what is behind it
pub record TellsFrom {V : Type 0} (S : Service V) (l : Saying) (rest : List (List ℕ)) (old new : V) (block text : List ℕ) (count : ℕ) : Type
    0 where
  pub answers : List Answer
  pub each : Each S old (calls_of (asked_by l (requests_in rest)) block answers) answers new
  pub text_is : text ≡ text_with l answers (λ more. text_of rest more)
  pub count_is : count ≡ length answers

line-tells : {V : Type 0} (S : Service V) (l : Saying) (rest : List (List ℕ)) (old new : V) (block text : List ℕ) (count : ℕ) (P : Behind V)
    →
    ((v : V) (b t : List ℕ) (k : ℕ) → P v b t k → TellsAnswers rest b t k (λ calls answers. Each S v calls answers new)) →
    ServesLine S (line_with l block) old block text count P → TellsFrom S l rest old new block text count
line-tells S nothing rest old new block text count P behind h =
    let r = behind old block text count h in
    record { answers = r.answers; each = r.are; text_is = r.text_is; count_is = r.count_is }
line-tells S badly rest old new block text count P behind h =
    let r = behind old block h.0 count h.2 in
    record { answers = r.answers; each = r.are; text_is = h.1 ∙ ap (λ x. bad_line_text ++ x) r.text_is; count_is = r.count_is }
line-tells S (says a) rest old new block text count P behind h =
    let r = behind h.next h.answer.block h.more h.others h.rest in
    record {
      answers = h.answer ∷ r.answers;
      each = (h.next, h.serves, r.are);
      text_is = h.text_is ∙ ap (λ x. answer_line a.ask.request h.answer.block h.answer.result ++ x) r.text_is;
      count_is = omega (arith, h.count_is, r.count_is);
    }

pub requests-are-answered : {V : Type 0} (S : Service V) → RequestsAreAnswered S
requests-are-answered S [] old new block block' text count h = record { answers = []; are = h.0; text_is = h.2; count_is = h.3 }
requests-are-answered S (line ∷ rest) old new block block' text count h =
    let P : Behind _ = λ v b t k. ServesLines S rest v b t k new block' in
    let r = line-tells S (saying_of line) rest old new block text count P (λ v b t k p. requests-are-answered S rest v new b block' t k p)
    (subst (λ (l : Line). ServesLine S l old block text count P) (line_asks_alone line block) h) in
    record { answers = r.answers; are = r.each; text_is = r.text_is; count_is = r.count_is }

pub steps-are-run : LinesAreRun
steps-are-run lines old new block block' text count h =
    let r = requests-are-answered Steps lines old new block block' text count h in
    record { answers = r.answers; are = each-is-run old new _ r.answers r.are; text_is = r.text_is; count_is = r.count_is }

-- what each request keeps is kept by all
line-keeps : {V : Type 0} (S : Service V) (R : V → V → Type 0) → ((u v w : V) → R u v → R v w → R u w) →
    ((v w : V) (call : Call) (answer : Answer) → S v call answer w → R v w) →
    (l : Line) (old new : V) (block text : List ℕ) (count : ℕ) (P : Behind V) → ((v : V) (b t : List ℕ) (k : ℕ) → P v b t k → R v new) →
    ServesLine S l old block text count P → R old new
line-keeps S R trans each no_request old new block text count P behind h = behind old block text count h
line-keeps S R trans each bad_line old new block text count P behind h = behind old block h.0 count h.2
line-keeps S R trans each (request_line call) old new block text count P behind h =
    trans old h.next new (each old h.next call h.answer h.serves) (behind h.next h.answer.block h.more h.others h.rest)

pub lines-keep : {V : Type 0} (S : Service V) (R : V → V → Type 0) → ((v : V) → R v v) → ((u v w : V) → R u v → R v w → R u w) →
    ((v w : V) (call : Call) (answer : Answer) → S v call answer w → R v w) →
    (lines : List (List ℕ)) (old new : V) (block block' text : List ℕ) (count : ℕ) → ServesLines S lines old block text count new block'
    → R old new
lines-keep S R self trans each [] old new block block' text count h = subst (λ v. R old v) (sym h.0) (self old)
lines-keep S R self trans each (line ∷ rest) old new block block' text count h =
    line-keeps S R trans each (line_of line block) old new block text count (λ v b t k. ServesLines S rest v b t k new block')
    (λ v b t k p. lines-keep S R self trans each rest v new b block' t k p) h

-- lines that are served by what is seen as another service are served by that, where nothing failed
module _ {V W : Type 0} (S : Service V) (T : Service W) (view : V → W) (failures : V → ℕ) (is_sound : V → Bool)
    (m : IsSeenAs S T view failures is_sound) where
  line-seen : (l : Line) (old new : V) (block text : List ℕ) (count : ℕ) (P : Behind V) (Q : Behind W) → is_sound old ≡ true
      → failures new ≡ failures old →
      ((v : V) (b t : List ℕ) (k : ℕ) → P v b t k → failures v ≤ failures new) →
      ((v : V) (b t : List ℕ) (k : ℕ) → P v b t k → is_sound v ≡ true → failures new ≡ failures v → Q (view v) b t k) →
      ServesLine S l old block text count P → ServesLine T l (view old) block text count Q
  line-seen no_request old new block text count P Q sound none most behind h = behind old block text count h sound none
  line-seen bad_line old new block text count P Q sound none most behind h = (h.0, h.1, behind old block h.0 count h.2 sound none)
  line-seen (request_line call) old new block text count P Q sound none most behind h =
      let less = m.rises old h.next call h.answer h.serves in
      let rest = most h.next h.answer.block h.more h.others h.rest in
      let same : failures h.next ≡ failures old = omega (arith, less, rest, none) in
      let step = m.seen old h.next call h.answer h.serves sound same in
      record {
        answer = h.answer;
        next = view h.next;
        more = h.more;
        others = h.others;
        serves = step.0;
        text_is = h.text_is;
        count_is = h.count_is;
        rest = behind h.next h.answer.block h.more h.others h.rest step.1 (none ∙ sym same);
      }

  pub lines-rise : (lines : List (List ℕ)) (old new : V) (block block' text : List ℕ) (count : ℕ)
      → ServesLines S lines old block text count new block' → failures old ≤ failures new
  lines-rise = lines-keep S (λ x y. failures x ≤ failures y) (λ x. omega arith) (λ x y z p q. omega (arith, p, q)) m.rises

  pub lines-seen : (lines : List (List ℕ)) (old new : V) (block block' text : List ℕ) (count : ℕ)
      → ServesLines S lines old block text count new block' →
      is_sound old ≡ true → failures new ≡ failures old → ServesLines T lines (view old) block text count (view new) block'
  lines-seen [] old new block block' text count h sound none = (ap view h.0, h.1, h.2, h.3)
  lines-seen (line ∷ rest) old new block block' text count h sound none =
      line-seen (line_of line block) old new block text count (λ v b t k. ServesLines S rest v b t k new block')
      (λ s b t k. ServesLines T rest s b t k (view new) block') sound none
      (λ v b t k p. lines-rise rest v new b block' t k p)
      (λ v b t k p. lines-seen rest v new b block' t k p) h

  -- and what is sound stays so
  line-sound : (l : Line) (old new : V) (block text : List ℕ) (count : ℕ) (P : Behind V) → is_sound old ≡ true → failures new ≡ failures old
      →
      ((v : V) (b t : List ℕ) (k : ℕ) → P v b t k → failures v ≤ failures new) →
      ((v : V) (b t : List ℕ) (k : ℕ) → P v b t k → is_sound v ≡ true → failures new ≡ failures v → is_sound new ≡ true) →
      ServesLine S l old block text count P → is_sound new ≡ true
  line-sound no_request old new block text count P sound none most behind h = behind old block text count h sound none
  line-sound bad_line old new block text count P sound none most behind h = behind old block h.0 count h.2 sound none
  line-sound (request_line call) old new block text count P sound none most behind h =
      let less = m.rises old h.next call h.answer h.serves in
      let rest = most h.next h.answer.block h.more h.others h.rest in
      let same : failures h.next ≡ failures old = omega (arith, less, rest, none) in
      behind h.next h.answer.block h.more h.others h.rest (m.seen old h.next call h.answer h.serves sound same).1 (none ∙ sym same)

  pub lines-sound : (lines : List (List ℕ)) (old new : V) (block block' text : List ℕ) (count : ℕ)
      → ServesLines S lines old block text count new block' →
      is_sound old ≡ true → failures new ≡ failures old → is_sound new ≡ true
  lines-sound [] old new block block' text count h sound none = ap is_sound h.0 ∙ sound
  lines-sound (line ∷ rest) old new block block' text count h sound none =
      line-sound (line_of line block) old new block text count (λ v b t k. ServesLines S rest v b t k new block') sound none
      (λ v b t k p. lines-rise rest v new b block' t k p)
      (λ v b t k p. lines-sound rest v new b block' t k p) h

pub sound-is-run : {V : Type 0} (S : Service V) → SoundIsRun S
sound-is-run S view failures is_sound m lines old new block block' text count h sound none =
    steps-are-run lines (view old) (view new) block block' text count
    (lines-seen S Steps view failures is_sound m lines old new block block' text count h sound none)

-- costs add along lines, from any sum; where P is and stays, what each request makes grow by no more than its cost grows by no more than
-- their sum
module _ {V : Type 0} (S : Service V) (cost : V → Call → ℕ) (measure : V → ℕ) (P : V → Type 0)
    (grows : (v w : V) (c : Call) (a : Answer) → P v → S v c a w → (measure w ≤ measure v + cost v c) × P w)
  where
    -- from this sum on, to that
    pub record CostsFrom (lines : List (List ℕ)) (v : V) (n : ℕ) (block text : List ℕ) (count : ℕ) (w : V) (block' : List ℕ) : Type 0 where
      pub most : ℕ
      pub serves : ServesLines (AddsCost S cost) lines (record { value = v; sum = n }) block text count (record { value = w; sum = most })
          block'
      pub bound : P v → (measure w + n ≤ measure v + most) × P w

    -- the same of a line and what is behind it
    record LineCosts (l : Line) (rest : List (List ℕ)) (v : V) (n : ℕ) (block text : List ℕ) (count : ℕ) (w : V) (block' : List ℕ) : Type 0
      where
        most : ℕ
        serves : ServesLine (AddsCost S cost) l (record { value = v; sum = n }) block text count
            (λ x b t k. ServesLines (AddsCost S cost) rest x b t k (record { value = w; sum = most }) block')
        bound : P v → (measure w + n ≤ measure v + most) × P w

    line-costs : (l : Line) (rest : List (List ℕ)) (v w : V) (n : ℕ) (block block' text : List ℕ) (count : ℕ) →
        ((u : V) (m : ℕ) (b t : List ℕ) (k : ℕ) → ServesLines S rest u b t k w block' → CostsFrom rest u m b t k w block') →
        ServesLine S l v block text count (λ u b t k. ServesLines S rest u b t k w block') → LineCosts l rest v n block text count w block'
    line-costs no_request rest v w n block block' text count behind h =
        let r = behind v n block text count h in
        record { most = r.most; serves = r.serves; bound = r.bound }
    line-costs bad_line rest v w n block block' text count behind h =
        let r = behind v n block h.0 count h.2 in
        record { most = r.most; serves = (h.0, h.1, r.serves); bound = r.bound }
    line-costs (request_line call) rest v w n block block' text count behind h =
        let r = behind h.next (n + cost v call) h.answer.block h.more h.others h.rest in
        record {
          most = r.most;
          serves = record {
            answer = h.answer;
            next = record { value = h.next; sum = n + cost v call };
            more = h.more;
            others = h.others;
            serves = (h.serves, refl);
            text_is = h.text_is;
            count_is = h.count_is;
            rest = r.serves;
          };
          bound = λ p.
              let one = grows v h.next call h.answer p h.serves in
              let all = r.bound one.1 in
              (omega (arith, one.0, all.0), all.1);
        }

    pub costs-from : (lines : List (List ℕ)) (v w : V) (n : ℕ) (block block' text : List ℕ) (count : ℕ)
        → ServesLines S lines v block text count w block' →
        CostsFrom lines v n block text count w block'
    costs-from [] v w n block block' text count h = record {
      most = n;
      serves = ((λ i. record { value = h.0 i; sum = n }), h.1, h.2, h.3);
      bound = λ p. (omega (arith, ap measure h.0), subst P (sym h.0) p);
    }
    costs-from (line ∷ rest) v w n block block' text count h =
        let r = line-costs (line_of line block) rest v w n block block' text count (λ u m b t k p. costs-from rest u w m b block' t k p) h
        in
        record { most = r.most; serves = r.serves; bound = r.bound }
