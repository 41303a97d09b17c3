use Rattle.cc_compile.proofs.built_laws.built_functions_differ.Goals as goal

pub returns : goal.returns
returns c = λ o bytes image frames b.
    let names = c.functions_have_names.ensures bytes b.tokens b.source b.lexes b.is_source.derives in
    let limits = c.trees_are_small.ensures b.tokens b.source b.lexes.1 b.is_source.derives b.is_source.low in
    (c.typed_is_well_formed.ensures b.source b.program b.typed names limits).differ
