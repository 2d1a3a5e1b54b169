-- Lines that are served, parted anywhere.
use Rattle.std.proofs.Common.{◌≡◌, ℕ, ◌+◌, List, [], ◌∷◌, ◌++◌, refl, sym, ◌∙◌, ap, arith, append_assoc}
use Rattle.f11_script.specs.Answers.{answer_line, bad_line_text}
use Rattle.f11_script.specs.Lines.{Line, no_request, bad_line, request_line, line_of}
use Rattle.f11_serving.specs.Served.{Service, ServesLine, ServesLines}
use Rattle.f11_serving.specs.Laws.{ServedIsInParts, ServesInParts}

-- a line and the front behind it are served, and then the rest
record Parted {V : Type 0} (S : Service V) (l : Line) (front rest : List (List ℕ)) (old : V) (block text : List ℕ) (count : ℕ)
    (new : V) (block' : List ℕ) : Type 0 where
  between : V
  lent : List ℕ
  text_before : List ℕ
  text_behind : List ℕ
  asked_before : ℕ
  asked_behind : ℕ
  before : ServesLine S l old block text_before asked_before (λ v b t k. ServesLines S front v b t k between lent)
  behind : ServesLines S rest between lent text_behind asked_behind new block'
  text_is : text ≡ text_before ++ text_behind
  count_is : count ≡ asked_before + asked_behind

line-parted : {V : Type 0} (S : Service V) (l : Line) (front rest : List (List ℕ)) (old new : V) (block block' text : List ℕ) (count : ℕ) →
    ((v : V) (b t : List ℕ) (k : ℕ) → ServesLines S (front ++ rest) v b t k new block' → ServesInParts S front rest v b t k new block') →
    ServesLine S l old block text count (λ v b t k. ServesLines S (front ++ rest) v b t k new block') →
    Parted S l front rest old block text count new block'
line-parted S no_request front rest old new block block' text count part h =
    let r = part old block text count h in
    record {
      between = r.between;
      lent = r.lent;
      text_before = r.text_before;
      text_behind = r.text_behind;
      asked_before = r.asked_before;
      asked_behind = r.asked_behind;
      before = r.before;
      behind = r.behind;
      text_is = r.text_is;
      count_is = r.count_is;
    }
line-parted S bad_line front rest old new block block' text count part h =
    let r = part old block h.0 count h.2 in
    record {
      between = r.between;
      lent = r.lent;
      text_before = bad_line_text ++ r.text_before;
      text_behind = r.text_behind;
      asked_before = r.asked_before;
      asked_behind = r.asked_behind;
      before = (r.text_before, refl, r.before);
      behind = r.behind;
      text_is = h.1 ∙ ap (λ x. bad_line_text ++ x) r.text_is ∙ sym (append_assoc bad_line_text r.text_before r.text_behind);
      count_is = r.count_is;
    }
line-parted S (request_line call) front rest old new block block' text count part h =
    let r = part h.next h.answer.block h.more h.others h.rest in
    let line = answer_line call.request h.answer.block h.answer.result in
    record {
      between = r.between;
      lent = r.lent;
      text_before = line ++ r.text_before;
      text_behind = r.text_behind;
      asked_before = r.asked_before + 1;
      asked_behind = r.asked_behind;
      before = record {
        answer = h.answer;
        next = h.next;
        more = r.text_before;
        others = r.asked_before;
        serves = h.serves;
        text_is = refl;
        count_is = refl;
        rest = r.before;
      };
      behind = r.behind;
      text_is = h.text_is ∙ ap (λ x. line ++ x) r.text_is ∙ sym (append_assoc line r.text_before r.text_behind);
      count_is = omega (arith, h.count_is, r.count_is);
    }

pub served-is-in-parts : {V : Type 0} (S : Service V) → ServedIsInParts S
served-is-in-parts S [] rest old new block block' text count h = record {
  between = old;
  lent = block;
  text_before = [];
  text_behind = text;
  asked_before = 0;
  asked_behind = count;
  before = (refl, refl, refl, refl);
  behind = h;
  text_is = refl;
  count_is = omega arith;
}
served-is-in-parts S (line ∷ front) rest old new block block' text count h =
    let r = line-parted S (line_of line block) front rest old new block block' text count
    (λ v b t k p. served-is-in-parts S front rest v new b block' t k p) h in
    record {
      between = r.between;
      lent = r.lent;
      text_before = r.text_before;
      text_behind = r.text_behind;
      asked_before = r.asked_before;
      asked_behind = r.asked_behind;
      before = r.before;
      behind = r.behind;
      text_is = r.text_is;
      count_is = r.count_is;
    }
