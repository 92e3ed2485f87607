-- Laws that several proofs of this crate, or of others, cite.
pub mod ModeTerms
pub mod ModeAtoms
pub mod ModeWalk
pub mod ModeLoops
pub mod ModeSome
pub mod ModeFormulaSets
pub mod ModeFormulaLoops
pub mod ModeFormula
