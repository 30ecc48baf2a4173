-- What is found of all that was to come.
use Rattle.std.proofs.Common.{◌≡◌, ℕ, List, [], ◌++◌, Option, None, Some, Result, Ok, Err, inl, inr, refl, sym, subst, length}
use Rattle.std.specs.Prelude.{IfOk, OnOk}
use Rattle.hose_io.specs.Stream.{Stream}
use Rattle.hose_io.specs.declared.source.Source.{Ghosts}
use Rattle.hose_words.specs.steps.Lines.{Reader}
use Rattle.hose_words.specs.Reading.{WhereTold}
use Rattle.hose_words.proofs.OnReading.{WhereTold-map, WhereTold-then}
use Rattle.hose_graph.specs.Network.{Network, IsNetwork}
use Rattle.hose_cert.specs.CertLine.{CertLine}
use Rattle.hose_cert.specs.Certificate.{IsCertText, IsCertificate}
use Rattle.hose_cert.specs.steps.Draft.{IsBody}
use Rattle.hose_cert.specs.Rules.{CertClaim}
use Rattle.hose_cert.specs.steps.Taking.{IsAllRead, ReadsCertText, ReadsUpTo}
use Rattle.hose_cert.specs.Verdict.{AreCheapestFound, IsVerdict, IsNoText, IsValid}
use Rattle.hose_cert.specs.steps.Verdict.{IsFoundOf, IsYesOf}
use Rattle.hose_cert.specs.declared.Verdict.{Verdict}
use Rattle.hose_cert.specs.declared.Verdict.TheVariants.{Yes, No}
use Rattle.hose_cert.specs.declared.draft.Body.{Body}
use Rattle.hose_cert.specs.declared.fault.CertFault.{CertFault}
use Rattle.hose_cert.proofs.Certified.{certified}
use Rattle.hose_cert.proofs.Once.{found_valid}

module _ (network : Network) (is : IsNetwork network) where
  found_of : (text : List ℕ) (lines : List CertLine) (verdict : Verdict) → IsCertText network text lines → IsFoundOf network lines verdict → IsVerdict network text verdict
  found_of text lines (Yes hose without amounts cost) is_text found = record { lines = lines; is_text = is_text; claims = found.0; meets = found.1 }
  found_of text lines (No rule) is_text found = inr (record { lines = lines; claim = found.0; is_text = is_text; claims = found.1; breaks = found.2 })

  cheapest_of : (lines : List CertLine) (verdict : Verdict) → IsCertificate network lines → IsFoundOf network lines verdict → AreCheapestFound network verdict
  cheapest_of lines (Yes hose without amounts cost) whole found =
      certified network lines (record { cost = cost; hose = hose; pairs = amounts; without = without }) is whole found.0 found.1
  cheapest_of lines (No rule) whole found = tt

  module _ {S : Type 0} (source : Ghosts S) (old mid new : Reader S) where
    abbrev Found : Verdict → Type 0
    Found verdict = WhereTold (source.content old.source) (source.content new.source) (λ before _. IsVerdict network (old.pending ++ before) verdict)

    module _ (body : Body) (verdict : Verdict) (judged : (lines : List CertLine) → IsBody network lines body → body.rows.root ≡ length network.nodes → IsFoundOf network lines verdict) where
      pub some_found : ReadsCertText source network old new (Ok (Some body)) → Found verdict
      some_found (lines, is_body, all, whole, texts, left) =
          WhereTold-map (source.content old.source) (source.content new.source) _ _ texts (λ before _ text. found_of (old.pending ++ before) lines verdict text.is_text (judged lines is_body all))

      pub some_cheapest : ReadsCertText source network old new (Ok (Some body)) → AreCheapestFound network verdict
      some_cheapest (lines, is_body, all, whole, texts, left) = cheapest_of lines verdict whole (judged lines is_body all)

    -- what holds whatever is told
    told_any : (o n : Option Stream) (P : List ℕ → List ℕ → Type 0) → ((before after : List ℕ) → P before after) → WhereTold o n P
    told_any None n P holds = tt
    told_any (Some before) None P holds = tt
    told_any (Some before) (Some after) P holds = holds before.left after.left

    module _ (none : ReadsCertText source network old mid (Ok None)) (up_to : ReadsUpTo source old mid None) where
      none_then : (P : List ℕ → List ℕ → Type 0) → IsAllRead source mid new → ((before after : List ℕ) → IsNoText network (old.pending ++ before) → new.pending ++ after ≡ [] → P before after)
          → WhereTold (source.content old.source) (source.content new.source) P
      none_then P all then = WhereTold-then (source.content old.source) (source.content mid.source) (source.content new.source) up_to.on.takes.0 _ _ _ up_to.on.takes.1 none all
          (λ before between after no_text left. then before after no_text left)

      pub none_found : (result : Result Verdict CertFault) → IfOk result (λ verdict. verdict ≡ No 1) → OnOk result (IsAllRead source mid new)
          → WhereTold (source.content old.source) (source.content new.source) (λ before _. IfOk result (IsVerdict network (old.pending ++ before)))
      none_found (Ok verdict) is_no all = none_then _ all (λ before after no_text _. subst (IsVerdict network (old.pending ++ before)) (sym is_no) (inl (refl, no_text)))
      none_found (Err fault) is_no all = told_any (source.content old.source) (source.content new.source) _ (λ _ _. tt)

      pub none_valid : (result : Result Verdict CertFault) → OnOk result (IsAllRead source mid new) → (claim : CertClaim)
          → WhereTold (source.content old.source) (source.content new.source) (λ before _. IsValid network (old.pending ++ before) claim → IfOk result (λ verdict. IsYesOf verdict claim))
      none_valid (Ok verdict) all claim = none_then _ all (λ before after no_text _ valid. absurd (no_text valid.lines valid.is_text))
      none_valid (Err fault) all claim = told_any (source.content old.source) (source.content new.source) _ (λ _ _ _. tt)

      pub none_all : (result : Result Verdict CertFault) → OnOk result (IsAllRead source mid new) → OnOk result (IsAllRead source old new)
      none_all (Ok verdict) all = none_then _ all (λ before after _ left. left)
      none_all (Err fault) all = tt

    pub none_cheapest : (result : Result Verdict CertFault) → IfOk result (λ verdict. verdict ≡ No 1) → IfOk result (AreCheapestFound network)
    none_cheapest (Ok verdict) is_no = subst (AreCheapestFound network) (sym is_no) tt
    none_cheapest (Err fault) is_no = tt

    -- a valid certificate is found so
    pub valid_found : (verdict : Verdict) → Found verdict → (claim : CertClaim)
        → WhereTold (source.content old.source) (source.content new.source) (λ before _. IsValid network (old.pending ++ before) claim → IsYesOf verdict claim)
    valid_found verdict found claim =
        WhereTold-map (source.content old.source) (source.content new.source) _ _ found (λ before _ is_found valid. found_valid network is (old.pending ++ before) verdict claim is_found valid)
