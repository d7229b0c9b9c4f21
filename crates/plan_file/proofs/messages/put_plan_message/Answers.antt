use Rattle.std.proofs.Common.{◌≡◌, ◌++◌, ◌∷◌, ◌∙◌, [], List, ℕ, ap, sym, append_assoc, codes, subst}
use Rattle.std.specs.Fmt.{decimal}
use Rattle.std.specs.List.{join_with_byte}
use Rattle.std.proofs.lemmas.Result.{on_err_weaker, on_ok_weaker}
use Rattle.dm_io.specs.Streams.{WritesPrefix, appended_to}
use Rattle.report_spec.specs.Replies.{reason_words}
use Rattle.plan_file.proofs.messages.put_plan_message.Goals as goal

-- the pieces are the program's name, the number, the reason and a newline
pieces_are : (program digits word space detail number reason : List ℕ) → digits ≡ number → word ++ (space ++ detail) ≡ reason
    → program ++ (codes ": plan line " ++ (digits ++ (codes ": " ++ (word ++ (space ++ (detail ++ 10 ∷ []))))))
    ≡ (program ++ (codes ": " ++ (codes "plan line " ++ (number ++ (codes ": " ++ reason))))) ++ 10 ∷ []
pieces_are program digits word space detail number reason d r =
    ap (λ n. program ++ (codes ": plan line " ++ (n ++ (codes ": " ++ (word ++ (space ++ (detail ++ 10 ∷ []))))))) d
    ∙ ap (λ t. program ++ (codes ": plan line " ++ (number ++ (codes ": " ++ t))))
    (ap (λ t. word ++ t) (sym (append_assoc space detail (10 ∷ [])))
    ∙ sym (append_assoc word (space ++ detail) (10 ∷ [])) ∙ ap (λ t. t ++ 10 ∷ []) r)
    ∙ ap (λ t. program ++ (codes ": plan line " ++ t)) (sym (append_assoc number (codes ": " ++ reason) (10 ∷ [])))
    ∙ sym (append_assoc program (codes ": " ++ (codes "plan line " ++ (number ++ (codes ": " ++ reason)))) (10 ∷ []))

pub returns-clause-all : goal.returns-clause-all
returns-clause-all g c =
    let r = c.reason_text.result in
    let same = pieces_are c.args.program.now c.as_bytes.result.now r.0.now r.1.now r.2.now (decimal c.args.line) (join_with_byte 32 (reason_words c.args.reason.now))
    (c.as_bytes.ensures.value ∙ c.format.ensures.text) c.reason_text.ensures in
    on_ok_weaker c.put_pieces.result (λ all. all ∙ ap (λ t. appended_to (g.E.Sink.written c.args.err.now) t) same) c.put_pieces.ensures.all

pub returns-clause-prefix : goal.returns-clause-prefix
returns-clause-prefix g c =
    let r = c.reason_text.result in
    let same = pieces_are c.args.program.now c.as_bytes.result.now r.0.now r.1.now r.2.now (decimal c.args.line) (join_with_byte 32 (reason_words c.args.reason.now))
    (c.as_bytes.ensures.value ∙ c.format.ensures.text) c.reason_text.ensures in
    on_err_weaker c.put_pieces.result (subst (λ t. WritesPrefix (g.E.Sink.written c.args.err.now) (g.E.Sink.written c.put_pieces.new.err) t) same) c.put_pieces.ensures.prefix
