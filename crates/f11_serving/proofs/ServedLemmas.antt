-- Lines that are served, in parts.
use Rattle.std.proofs.Common.{◌≡◌, ℕ, ◌+◌, List, [], ◌∷◌, ◌++◌, length, refl, sym, ◌∙◌, ap, subst, arith, append_assoc, append-nil}
use Rattle.f11_store.specs.Run.{Call, Answer}
use Rattle.f11_script.specs.Answers.{answer_line, bad_line_text}
use Rattle.f11_script.specs.Lines.{Line, no_request, bad_line, request_line, line_of}
use Rattle.f11_script.specs.Asking.{Saying, nothing, badly, says, saying_of, asked_by, line_with, requests_in}
use Rattle.f11_script.proofs.AskingLemmas.{line_asks_alone}
use Rattle.f11_serving.specs.Served.{Service, Behind, ServesLine, IsScriptEnd, ServesLines}
use Rattle.f11_serving.specs.Laws.{PartsAreServed, CountIsOfRequests}

-- a line, with more behind what was behind it
line-more : {V : Type 0} (S : Service V) (l : Line) (old : V) (block text more : List ℕ) (count others : ℕ) (P Q : Behind V) →
    ((v : V) (b t : List ℕ) (k : ℕ) → P v b t k → Q v b (t ++ more) (k + others)) →
    ServesLine S l old block text count P → ServesLine S l old block (text ++ more) (count + others) Q
line-more S no_request old block text more count others P Q next h = next old block text count h
line-more S bad_line old block text more count others P Q next h = (
  h.0 ++ more,
  ap (λ x. x ++ more) h.1 ∙ append_assoc bad_line_text h.0 more,
  next old block h.0 count h.2,
)
line-more S (request_line call) old block text more count others P Q next h = record {
  answer = h.answer;
  next = h.next;
  more = h.more ++ more;
  others = h.others + others;
  serves = h.serves;
  text_is = ap (λ x. x ++ more) h.text_is ∙ append_assoc (answer_line call.request h.answer.block h.answer.result) h.more more;
  count_is = omega (arith, h.count_is);
  rest = next h.next h.answer.block h.more h.others h.rest;
}

-- from the end of the front on
from-end : {V : Type 0} (S : Service V) (rest : List (List ℕ)) (old between new : V) (block b block' text more : List ℕ) (count others : ℕ)
    →
    IsScriptEnd between b old block text count → ServesLines S rest between b more others new block' →
    ServesLines S rest old block (text ++ more) (count + others) new block'
from-end S rest old between new block b block' text more count others h k =
    let number : others ≡ count + others = omega (arith, h.3) in
    let written : more ≡ text ++ more = sym (ap (λ x. x ++ more) h.2) in
    subst (λ n. ServesLines S rest old block (text ++ more) n new block') number
    (subst (λ (x : List ℕ). ServesLines S rest old block x others new block') written
    (subst (λ v. ServesLines S rest v block more others new block') h.0
    (subst (λ (x : List ℕ). ServesLines S rest between x more others new block') h.1 k)))

pub parts-are-served : {V : Type 0} (S : Service V) → PartsAreServed S
parts-are-served S [] rest old between new block b block' text more count others h k =
    from-end S rest old between new block b block' text more count others h k
parts-are-served S (line ∷ front) rest old between new block b block' text more count others h k =
    line-more S (line_of line block) old block text more count others
    (λ v d t n. ServesLines S front v d t n between b) (λ v d t n. ServesLines S (front ++ rest) v d t n new block')
    (λ v d t n p. parts-are-served S front rest v between new d b block' t more n others p k) h

-- a request
pub one-request : {V : Type 0} (S : Service V) (line block : List ℕ) (call : Call) (a : Answer) (v w : V)
    → request_line call ≡ line_of line block →
    S v call a w → ServesLines S (line ∷ []) v block (answer_line call.request a.block a.result) 1 w a.block
one-request S line block call a v w is serves =
    subst (λ (l : Line). ServesLine S l v block (answer_line call.request a.block a.result) 1 (λ u b t n. IsScriptEnd w a.block u b t n)) is
    (record {
      answer = a;
      next = w;
      more = [];
      others = 0;
      serves = serves;
      text_is = sym (append-nil _);
      count_is = refl;
      rest = (refl, refl, refl, refl);
    })

-- a line that is read alike is served alike
pub one-alike : {V : Type 0} (S : Service V) (given line block block' text : List ℕ) (count : ℕ) (v w : V)
    → line_of given block ≡ line_of line block →
    ServesLines S (given ∷ []) v block text count w block' → ServesLines S (line ∷ []) v block text count w block'
one-alike S given line block block' text count v w alike h =
    subst (λ (l : Line). ServesLine S l v block text count (λ u d t n. IsScriptEnd w block' u d t n)) alike h

-- the requests of a line and of those behind it
line-count : {V : Type 0} (S : Service V) (l : Saying) (rest : List (List ℕ)) (old : V) (block text : List ℕ) (count : ℕ) (P : Behind V) →
    ((v : V) (b t : List ℕ) (k : ℕ) → P v b t k → k ≡ length (requests_in rest)) → ServesLine S (line_with l block) old block text count P →
    count ≡ length (asked_by l (requests_in rest))
line-count S nothing rest old block text count P behind h = behind old block text count h
line-count S badly rest old block text count P behind h = behind old block h.0 count h.2
line-count S (says a) rest old block text count P behind h =
    let others = behind h.next h.answer.block h.more h.others h.rest in
    omega (arith, h.count_is, others)

pub count-is-of-requests : {V : Type 0} (S : Service V) → CountIsOfRequests S
count-is-of-requests S [] old new block block' text count h = h.3
count-is-of-requests S (line ∷ rest) old new block block' text count h =
    let P : Behind _ = λ v b t k. ServesLines S rest v b t k new block' in
    line-count S (saying_of line) rest old block text count P (λ v b t k p. count-is-of-requests S rest v new b block' t k p)
    (subst (λ (l : Line). ServesLine S l old block text count P) (line_asks_alone line block) h)
