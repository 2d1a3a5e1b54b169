use Rattle.std.proofs.Common.{ℕ, ◌++◌, ◌∙◌, ap, Bool, List, if◌then◌else◌, [], ◌∷◌, sym}
use Rattle.rt11_text.specs.Text.{meant, without_crs}
use Rattle.rt11_text.specs.ToHost.{kept_back}
use Rattle.rt11_text.proofs.TextLemmas.{another-stays, end-ends, nul-means-nothing}
use Rattle.rt11_text.proofs.to_host.ToHost.take_byte.Goals as goal

pub returns-then-self-clause-gives : goal.returns-then-self-clause-gives
returns-then-self-clause-gives c rest =
    let to = λ (text : List ℕ) (b : Bool).
    c.args.into.now.items ++ without_crs (kept_back c.args.self.now ++ (if b then [] else text)) in
    (λ t. to (meant (c.args.byte ∷ rest)) (c.if-self.true t)) ∙ sym (λ t. to (meant rest) (c.if-self.true t))

pub returns-then-byte-eq0-clause-gives : goal.returns-then-byte-eq0-clause-gives
returns-then-byte-eq0-clause-gives c rest =
    let to = λ (text : List ℕ).
    c.args.into.now.items ++ without_crs (kept_back c.args.self.now ++ (if c.args.self.now.ended then [] else text)) in
    ap to (nul-means-nothing c.args.byte rest c.if-byte-eq0.true)

pub returns-then-byte-eq-END-clause-gives : goal.returns-then-byte-eq-END-clause-gives
returns-then-byte-eq-END-clause-gives c rest =
    let to = λ (text : List ℕ) (b : Bool).
    c.args.into.now.items ++ without_crs (kept_back c.args.self.now ++ (if b then [] else text)) in
    (λ t. to (end-ends c.args.byte rest c.if-byte-eq-END.true t) (c.if-self.false t))

pub returns-else-byte-eq-END-clause-gives : goal.returns-else-byte-eq-END-clause-gives
returns-else-byte-eq-END-clause-gives c rest =
    let to = λ (text : List ℕ) (b : Bool).
    c.args.into.now.items ++ without_crs (kept_back c.args.self.now ++ (if b then [] else text)) in
    let open-still = c.put_byte.ensures.ended ∙ c.if-self.false in
    (λ t. to (another-stays c.args.byte rest c.if-byte-eq-END.false c.if-byte-eq0.false t) (c.if-self.false t))
    ∙ c.put_byte.ensures.puts (meant rest)
    ∙ sym (λ t. c.put_byte.new.into.items
    ++ without_crs (kept_back c.put_byte.new.self ++ (if (open-still t) then [] else meant rest)))
