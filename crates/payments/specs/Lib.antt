pub mod Payments
pub mod PaymentLaws
