-- `lines::line` meets its contract: what it has written is the line. Assumes nothing.
use Rattle.std.proofs.Common.{ℕ, List, [], ◌∷◌, ◌++◌, sym, ap, subst, append-nil, append_assoc, ◌∙◌}
use Rattle.std.proofs.lemmas.Result.{on_ok_weaker}
use Rattle.std.specs.Prelude.{Option, None, Some, IfSome}
use Rattle.std.specs.declared.fmt.InlineText.{InlineText}
use Rattle.std.specs.Fmt.{with_newline, WritesInCalls}
use Rattle.std.specs.Fmt.InlineText.{inline_text, IsIntact, AppendsIfIntact}
use Rattle.std.specs.Io.KnownBytes.{Appends}
use Rattle.std.specs.List.{FoldsTo, concat}
use Rattle.lines.proofs.line.Goals as goal

-- several writes append together what they wrote
together : {n : ℕ} (s : InlineText n) (parts : List (List ℕ)) (t : InlineText n) → FoldsTo AppendsIfIntact s parts t → AppendsIfIntact s (concat parts) t
together s [] t same intact = (subst IsIntact same intact, ap inline_text (sym same) ∙ sym (append-nil (inline_text s)))
together s (x ∷ parts) t calls intact =
    let first = calls.1 intact in
    let rest = together calls.0 parts t calls.2 first.0 in
    (rest.0, rest.1 ∙ ap (λ l. l ++ concat parts) first.1 ∙ append_assoc (inline_text s) x (concat parts))

whole : {n : ℕ} (s : InlineText n) (bs : List ℕ) (t : InlineText n) → WritesInCalls AppendsIfIntact s bs t → AppendsIfIntact s bs t
whole s bs t wrote = subst (λ l. AppendsIfIntact s l t) wrote.whole (together s wrote.parts t wrote.calls)

some_then : (o : Option (List ℕ)) (P Q : List ℕ → Type 0) → ((bs : List ℕ) → P bs → Q bs) → IfSome o P → IfSome o Q
some_then None P Q k h = tt
some_then (Some bs) P Q k h = k bs h

pub returns : goal.returns
returns g c =
    let Grown = Appends (g.W.Write.contents c.args.out.now) (g.W.Write.contents c.write_all.new.self) in
    on_ok_weaker c.write_all.result
    (λ wrote. some_then (with_newline (g.D.Display.output c.args.shown)) (λ bs. WritesInCalls AppendsIfIntact c.new-kept.result bs c.writeln.new.self) Grown
    (λ bs calls.
    let kept = whole _ bs _ calls c.new-kept.ensures.intact in
    subst Grown (c.as_bytes.ensures.value ∙ c.as_str.ensures.value ∙ kept.1 ∙ ap (λ l. l ++ bs) c.new-kept.ensures.text) wrote)
    c.in_ok-writeln.ensures.writes)
    c.write_all.ensures.bytes
