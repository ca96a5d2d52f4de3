mod Weights
mod AccessFits
mod ObjectsFits
mod CallsFits
mod CoroutinesFits
mod ExpressionsFits
mod StatementsFits
mod LibraryFits
mod StepFits
pub mod Once
